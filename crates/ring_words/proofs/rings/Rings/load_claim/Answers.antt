use Rattle.std.proofs.Common.{◌≡◌, rules, arith}
use Rattle.ring_words.specs.Terms.{terms_of}
use Rattle.ring_words.proofs.Loads.{loads_claim}
use Rattle.ring_words.specs.Places.{processed, claim}
use Rattle.ring_words.specs.Seats.{person}
use Rattle.ring_words.proofs.Becomes.{gateway_sits, kept_behind}
use Rattle.ring_words.proofs.rings.Rings.load_claim.Goals as goal

pub load-requires : goal.load-requires
load-requires g c = let key = c.self.inside.table.shared.key in (
  search rules,
  search rules,
  loads_claim
      (terms_of g.L.Logic.reads g.L.Logic.outputs g.L.Logic.text g.L.Logic.nothing g.L.Logic.grows key) _ _ _
      c.seat.inside.alone,
)

pub invariant_of-seat-inside : goal.invariant_of-seat-inside
invariant_of-seat-inside g c = let seat = c.seat.inside in
    gateway_sits seat.seat.me _ _ c.load.ensures.2.0 seat.bare _ seat.role seat.numbered _ seat.counts _
    (kept_behind (person seat.seat.me.0) claim c.load.result _ (λ (e : claim ≡ processed). omega arith) seat.kept)
