use Rattle.std.proofs.Common.{◌≡◌, ℕ, rules, refl, arith}
use Rattle.ring_words.specs.Terms.{terms_of}
use Rattle.ring_words.proofs.Claims.{claims_claim_in}
use mathlib.Core.Logic.{dite}
use native.Mathlib.Decide.{ℕ_discrete}
use Rattle.ring_words.specs.Places.{processed, claim}
use Rattle.ring_words.specs.Seats.{person}
use Rattle.ring_words.proofs.Becomes.{gateway_sits, kept_behind}
use Rattle.ring_words.proofs.rings.Rings.exchange_claim.Goals as goal

pub compare_exchange-requires : goal.compare_exchange-requires
compare_exchange-requires g c = let key = c.self.inside.table.shared.key in (
  search rules,
  search rules,
  claims_claim_in
      (terms_of g.L.Logic.reads g.L.Logic.outputs g.L.Logic.text g.L.Logic.nothing g.L.Logic.grows key) g.row.N
      c.self.inside.rows.0 _ _ _ _ c.args.from _ c.seat.inside.alone c.seat.inside.role refl (search rules)
      c.requires.small,
)

pub invariant_of-seat-inside : goal.invariant_of-seat-inside
invariant_of-seat-inside g c = let seat = c.seat.inside in let found : ℕ = c.compare_exchange.result in
    let kept = kept_behind (person seat.seat.me.0) claim found _ (λ (e : claim ≡ processed). omega arith) seat.kept in
    dite (ℕ_discrete found c.args.from)
    (λ same. gateway_sits seat.seat.me _ _ (c.compare_exchange.ensures.2.0 same) seat.bare _ seat.role seat.numbered _
    seat.counts _ kept)
    (λ other. gateway_sits seat.seat.me _ _ (c.compare_exchange.ensures.2.1 other) seat.bare _ seat.role seat.numbered _
    seat.counts _ kept)
