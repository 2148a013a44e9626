use Rattle.std.proofs.Common.{rules}
use Rattle.ring_words.specs.Terms.{terms_of}
use Rattle.ring_words.proofs.Taking.{stores_taken_at}
use Rattle.ring_words.proofs.rings.Rings.store_taken.Goals as goal

pub store-requires : goal.store-requires
store-requires g c = let key = c.self.inside.table.shared.key in let seat = c.seat.inside in (
  search rules,
  search rules,
  stores_taken_at (terms_of g.L.Logic.reads g.L.Logic.outputs g.L.Logic.text g.L.Logic.nothing g.L.Logic.grows key) _ _
      _ _ _ _ c.taken_word-place.ensures.place seat.alone seat.role (search rules) (search rules),
)
