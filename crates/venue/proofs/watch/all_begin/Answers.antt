-- Nap by nap.
use Rattle.std.proofs.Common.{◌≡◌, ◌⊎◌, ℕ, ◌<◌, inl, inr, refl, arith, add-one}
use Rattle.venue.proofs.watch.all_begin.Goals as goal

-- behind some looks one has answered
at_last : (A : Type 0) (k : ℕ) → 0 < k → (k ≡ 0) ⊎ A → A
at_last A k some (inl none) = absurd (omega (arith, some, none))
at_last A k some (inr is) = is

pub loop-looks-init : goal.loop-looks-init
loop-looks-init g c = record { naps = refl; awaited = inl refl }

pub loop-looks-preserved : goal.loop-looks-preserved
loop-looks-preserved g c = record {
  naps = rw add-one (c.loop-looks.pauses, c.loop-looks.invariant.naps, c.nap.ensures);
  awaited = inr (c.have_all_begun.ensures.awaited c.if-have_all_begun.false);
}

pub returns : goal.returns
returns g c =
    let ended = c.loop-looks-test.false in
    let within = c.loop-looks.auto.looks-end in (
      at_last (g.G.Signalling.awaited c.args.signals.now) c.loop-looks.looks (omega (arith, ended))
          c.loop-looks.invariant.awaited,
      (c.loop-looks.looks, omega (arith, ended, within), c.loop-looks.invariant.naps),
    )
