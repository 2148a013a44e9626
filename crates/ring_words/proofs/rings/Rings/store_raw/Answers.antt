use Rattle.std.proofs.Common.{rules}
use Rattle.ring_words.specs.Terms.{terms_of}
use Rattle.ring_words.proofs.Becomes.{gateway_sits}
use Rattle.ring_words.proofs.Writes.{writes_raw_in}
use Rattle.ring_words.proofs.rings.Rings.store_raw.Goals as goal

pub store-requires : goal.store-requires
store-requires g c = let key = c.self.inside.table.shared.key in (
  search rules,
  search rules,
  writes_raw_in (terms_of g.L.Logic.reads g.L.Logic.outputs g.L.Logic.text g.L.Logic.nothing g.L.Logic.grows key)
      g.row.N c.self.inside.rows.0 _ _ _ c.args.sequence c.args.word c.args.value _ _
      c.seat.inside.alone c.seat.inside.role (search rules) c.requires.word (search rules)
      c.row_word-place.ensures.place,
)

pub invariant_of-seat-inside : goal.invariant_of-seat-inside
invariant_of-seat-inside g c = let seat = c.seat.inside in
    let is = c.store.ensures.2 c.args.sequence c.args.word (search rules) c.requires.word
    c.row_word-place.ensures.place in
    gateway_sits seat.seat.me _ _ is seat.bare _ seat.role seat.numbered _ seat.counts _ seat.kept
