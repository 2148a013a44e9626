use Rattle.std.proofs.Common.{◌≡◌, ℕ, rules, arith}
use Rattle.ring_words.specs.Terms.{terms_of}
use Rattle.ring_words.proofs.Reading.{loads_address_in}
use Rattle.ring_words.specs.Places.{processed, out_row}
use Rattle.ring_words.specs.Seats.{person}
use Rattle.ring_words.proofs.Becomes.{gateway_sits, kept_behind}
use Rattle.ring_words.proofs.rings.Rings.load_address.Goals as goal

pub load-requires : goal.load-requires
load-requires g c = let key = c.self.inside.table.shared.key in let rows = c.self.inside.rows in (
  search rules,
  search rules,
  loads_address_in
      (terms_of g.L.Logic.reads g.L.Logic.outputs g.L.Logic.text g.L.Logic.nothing g.L.Logic.grows key) g.row.N
      g.row.M rows.0 rows.1 _ _ _ _ _ c.seat.inside.alone c.seat.inside.role,
)

pub returns-clause-address : goal.returns-clause-address
returns-clause-address g c = λ o there. c.load.ensures.2.1 c.self.inside.table.shared.key.logic c.args.place o
    (search rules) (search rules) (search rules) (search rules) c.output_word-at.ensures.place

pub invariant_of-seat-inside : goal.invariant_of-seat-inside
invariant_of-seat-inside g c = let seat = c.seat.inside in let place : ℕ = c.output_word-at.result in
    let at : place ≡ out_row g.row.N g.row.M c.args.place 0 = c.output_word-at.ensures.place in
    gateway_sits seat.seat.me _ _ c.load.ensures.2.0 seat.bare _ seat.role seat.numbered _ seat.counts _
    (kept_behind (person seat.seat.me.0) place c.load.result _ (λ (e : place ≡ processed). omega arith) seat.kept)
