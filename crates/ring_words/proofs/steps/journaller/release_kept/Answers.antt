use Rattle.std.proofs.Common.{rules}
use Rattle.ring_words.specs.Terms.{terms_of}
use Rattle.ring_words.proofs.Stores.{stores_journalled}
use Rattle.ring_words.proofs.steps.journaller.release_kept.Goals as goal

pub store-requires : goal.store-requires
store-requires g c = let key = c.rings.inside.table.shared.key in (
  search rules,
  search rules,
  stores_journalled
      (terms_of g.L.Logic.reads g.L.Logic.outputs g.L.Logic.text g.L.Logic.nothing g.L.Logic.grows key) _ _ _
      c.args.upto c.seat.inside.alone c.seat.inside.role (search rules) (search rules),
)
