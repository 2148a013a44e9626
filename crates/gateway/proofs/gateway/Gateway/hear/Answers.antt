-- A read, and a feed, are one step.
use Rattle.std.proofs.Common.{◌≡◌, ◌⊎◌, inl, inr, [], ap, refl, sym, ◌∙◌, true≢false, rules}
use Rattle.gateway.specs.declared.gateway.Found.TheVariants.{Failed}
use Rattle.gateway.specs.Gateways.{AtRings, at_rings}
use Rattle.gateway.specs.Seats.{ledger_of}
use Rattle.gateway.proofs.HearLemmas.{read-hears, fed-hears, is_free}
use Rattle.gateway.proofs.gateway.Gateway.hear.Goals as goal
use Rattle.gateway.proofs.gateway.Gateway.hear.Goals.{then-eq-via-then-eq, then-eq-via-else-eq+then-is_empty}

pub returns-then-eq-clause-hears : goal.returns-then-eq-clause-hears
returns-then-eq-clause-hears g c =
    let tells = g.W.Wire.tells in
    let old = c.args.self.now in let read = c.read-read.new.self in
    let free = sym (ap (λ (a : AtRings). a.front.session.held) c.self.view_is)
    ∙ is_free c.self.inside.session.held (sym c.is_holding.ensures ∙ c.if-is_holding.false) in
    let why : (c.read-read.result ≡ Failed) ⊎ (read.front.waiting ≡ []) =
    elim c.then-eq.branch [
      | then-eq-via-then-eq w ↦ inl (search rules)
      | then-eq-via-else-eq+then-is_empty w ↦
          inr (sym (ap (λ (a : AtRings). a.front.waiting) c.self-2.view_is) ∙ w.is_empty.ensures.0 w.if-is_empty.true)
    ] in
    rw c.read-read.ensures.seat (read-hears old.front read.front (tells c.args.wire.now) (tells c.read-read.new.wire)
    (ledger_of g.row.N old.seat) c.requires.open free c.requires.silent c.read-read.result
    c.read-read.ensures.reads why)

pub returns-clause-hears : goal.returns-clause-hears
returns-clause-hears g c =
    let tells = g.W.Wire.tells in
    let old = c.args.self.now in
    let mid = at_rings c.self-2.inside in
    let new = at_rings (record c.self-2.inside { session = c.feed-fed.new.self; waiting = c.skip.new.self }) in
    let free = sym (ap (λ (a : AtRings). a.front.session.held) c.self.view_is)
    ∙ is_free c.self.inside.session.held (sym c.is_holding.ensures ∙ c.if-is_holding.false) in
    let reads = rw (← c.self-2.view_is) at c.read-read.ensures.reads in
    let seat : mid.seat ≡ old.seat = ap (λ (a : AtRings). a.seat) c.self-2.view_is ∙ c.read-read.ensures.seat in
    rw seat (fed-hears old.front mid.front (tells c.args.wire.now) (tells c.read-read.new.wire)
    (ledger_of g.row.N old.seat) c.requires.open free c.requires.silent c.read-read.result reads
    (λ is_failed. true≢false (sym (rw is_failed at c.eq.ensures) ∙ c.if-eq.false))
    c.as_slice.result.now new.front c.feed-fed.result c.as_slice.ensures c.feed-fed.ensures.hears refl c.skip.ensures
    c.feed-fed.ensures.room)
