-- The taking of an output: a load of marshalled that shows one, other loads, and the store of the taken word.
use Rattle.std.proofs.Common.{◌≡◌, ℕ, suc, ◌+◌, ◌<◌, ◌≤◌, List, [], ◌∷◌, ◌++◌, length, refl, sym, ap, subst, ◌∙◌, arith}
use Rattle.std.proofs.Common.{append_assoc}
use Rattle.std.proofs.Math.Seq.{take-append_seam}
use mathlib.Core.Option.{some}
use lib.ListN.{get_elem?}
use Rattle.venue_model.specs.History.{Message}
use Rattle.venue_model.specs.Texts.{Text}
use Rattle.venue_model.specs.declared.outputs.Output.{Output}
use Rattle.venue_model.specs.ListLaws.{at_behind}
use Rattle.ring_words.specs.declared.view.Load.{Load}
use Rattle.ring_words.specs.Places.{marshalled}
use Rattle.ring_words.specs.Seats.{load_of, loading, moved}
use Rattle.ring_words.specs.At.{Opened, At, IsAt, seated, number}
use Rattle.ring_words.specs.Steps.{IsLegal, Shows}
use Rattle.ring_words.specs.Finds.{IsAddress, FindsOutput}
use Rattle.barrier.specs.declared.taken.Head.{Head}
use Rattle.barrier.specs.declared.taken.Take.TheVariants.{Mine}
use Rattle.barrier.specs.Taking.{OnlyLoads, Carries, TakesNext, SaysOutput}
use Rattle.barrier.proofs.TextReading.{more_loads, still_shows, still_at}

-- marshalled was loaded above the own word q, so it shows an output there
module _ {L : Type 0} {outputs : List Message → List Output} {v u : At L} {r q : ℕ}
    (finds : v.who.sequence < r → FindsOutput outputs v r u) (here : q ≡ v.who.sequence) (below : q < r) where
  found : FindsOutput outputs v r u
  found = finds (omega arith)

  shown : Shows marshalled u.who q
  shown = subst (λ (y : At L). Shows marshalled y.who q) (sym found.step) (
    length v.who.loads,
    (
      load_of marshalled r,
      at_behind v.who.loads (load_of marshalled r ∷ []) 0 (length v.who.loads) _ (omega arith) refl,
      refl,
      below,
    ),
  )

  -- it may be looked at
  pub may_look : (u.who.sequence ≤ q) × Shows marshalled u.who q
  may_look = let own : u.who.sequence ≡ v.who.sequence = ap (λ (y : At L). y.who.sequence) found.step in
      (omega arith, shown)

  -- it is one of the outputs that are known now
  known : (o : Output) → get_elem? (outputs (v.who.seen ++ found.rest)) v.who.sequence ≡ some o
      → get_elem? (outputs u.who.seen) q ≡ some o
  known o at = subst (λ (y : At L). get_elem? (outputs y.who.seen) q ≡ some o) (sym found.step)
      (subst (λ (k : ℕ). get_elem? (outputs (v.who.seen ++ found.rest)) k ≡ some o) (sym here) at)

  module _ (w : At L) (loads : OnlyLoads u w) where
    -- behind other loads it may be taken
    pub may_take : r < 18446744073709551616
        → Shows marshalled w.who w.who.sequence × (w.who.sequence + 1 < 18446744073709551616)
    may_take small = let kept : w.who.sequence ≡ q =
        ap (λ (y : At L). y.who.sequence) loads.1 ∙ ap (λ (y : At L). y.who.sequence) found.step ∙ sym here in
        (rw kept (still_shows u w loads marshalled q shown), omega arith)

    -- and then it is the next one of a history that goes on from what was seen
    takes_next : (rings : Opened L) → IsAt rings v → (z : At L) → z ≡ seated w (moved w.who (suc w.who.sequence))
        → TakesNext (length rings.base) v.who (v.who.seen ++ found.rest) z.who
    takes_next rings of_rings z step = record {
      value = r;
      loads = loads.0;
      shown = omega arith;
      begins = sym (take-append_seam v.who.seen found.rest);
      legal = subst (λ (h : List Message). IsLegal (length h) v.who (v.who.seen ++ found.rest))
          (ap (λ (y : At L). y.base) of_rings) found.legal;
      few = found.few;
      taken = ap (λ (y : At L). y.who) (step
          ∙ ap (λ (y : At L). seated y (moved y.who (suc y.who.sequence))) loads.1
          ∙ ap (λ (y : At L). seated y (moved (loading y.who loads.0) (suc y.who.sequence))) found.step
          ∙ ap (λ (l : List Load). seated v (moved (record v.who { seen = v.who.seen ++ found.rest; loads = l })
          (suc v.who.sequence)))
          (append_assoc v.who.loads (load_of marshalled r ∷ []) loads.0));
    }

  -- behind a load of its address, which is this gateway's number, its text is read, and then it is taken
  pub takes_mine : (w x z : At L) (looks : OnlyLoads u w) (reads : OnlyLoads w x) (rings : Opened L) → IsAt rings v
      → z ≡ seated x (moved x.who (suc x.who.sequence)) → (address k : ℕ) → IsAddress outputs u.who q address
      → k ≡ number w → address ≡ k → (text : Output → ℕ → Text) (head : Head) (buf : List ℕ)
      → ((o : Output) → get_elem? (outputs w.who.seen) q ≡ some o → Carries head buf (text o q))
      → (history : List Message) × TakesNext (length rings.base) v.who history z.who
      × SaysOutput (outputs history) text v (Mine head) buf
  takes_mine w x z looks reads rings of_rings step address k is k_is same text head buf carries =
      let o = found.output.0 in let at = known o found.output.1 in
      let role = ap (λ (y : At L). number y) looks.1 ∙ ap (λ (y : At L). number y) found.step in (
        v.who.seen ++ found.rest,
        takes_next x (more_loads u w looks x reads) rings of_rings z step,
        (
          o,
          found.output.1,
          (
            sym (is o at) ∙ same ∙ k_is ∙ role,
            subst (λ (p : ℕ). Carries head buf (text o p)) here (carries o (still_at u w looks outputs o q at)),
          ),
        ),
      )
