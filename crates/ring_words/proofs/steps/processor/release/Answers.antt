use Rattle.std.proofs.Common.{rules}
use Rattle.ring_words.specs.Terms.{terms_of}
use Rattle.ring_words.proofs.Processed.{stores_processed}
use Rattle.ring_words.proofs.steps.processor.release.Goals as goal

pub store-requires : goal.store-requires
store-requires g c = let key = c.rings.inside.table.shared.key in (
  search rules,
  search rules,
  stores_processed (terms_of g.L.Logic.reads g.L.Logic.outputs g.L.Logic.text g.L.Logic.nothing g.L.Logic.grows key) _ _
      _ c.args.upto c.rings.inside.table.shared.key.logic (search rules) c.seat.inside.alone c.seat.inside.role
      (search rules) (search rules) (search rules),
)
