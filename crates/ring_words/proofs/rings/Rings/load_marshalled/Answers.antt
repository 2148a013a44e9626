use Rattle.std.proofs.Common.{◌≡◌, ◌≤◌, ℕ, rules, arith}
use Rattle.ring_words.specs.Terms.{terms_of}
use Rattle.ring_words.proofs.Taking.{loads_marshalled}
use mathlib.Core.Logic.{dite}
use native.Mathlib.Decide.{ℕ_discrete}
use Rattle.ring_words.specs.Places.{processed, marshalled}
use Rattle.ring_words.specs.Seats.{person}
use Rattle.ring_words.proofs.Becomes.{gateway_sits, kept_behind}
use Rattle.ring_words.proofs.rings.Rings.load_marshalled.Goals as goal

pub load-requires : goal.load-requires
load-requires g c = let key = c.self.inside.table.shared.key in (
  search rules,
  search rules,
  loads_marshalled
      (terms_of g.L.Logic.reads g.L.Logic.outputs g.L.Logic.text g.L.Logic.nothing g.L.Logic.grows key) _ _ _ _
      c.seat.inside.alone c.seat.inside.role,
)

pub invariant_of-seat-inside : goal.invariant_of-seat-inside
invariant_of-seat-inside g c = let seat = c.seat.inside in
    let found : ℕ = c.load.result in
    let own : ℕ = (person seat.seat.me.0).sequence in
    let told = c.load.ensures.2 in let up : own ≤ found = told.0 in
    let kept = kept_behind (person seat.seat.me.0) marshalled found _ (λ (e : marshalled ≡ processed). omega arith)
    seat.kept in
    dite (ℕ_discrete found own)
    (λ same. gateway_sits seat.seat.me _ _ (told.1 same) seat.bare _ seat.role seat.numbered _ seat.counts _ kept)
    (λ above. gateway_sits seat.seat.me _ _ (told.2 (omega arith)).1 seat.bare _ seat.role seat.numbered _ seat.counts _
    kept)
