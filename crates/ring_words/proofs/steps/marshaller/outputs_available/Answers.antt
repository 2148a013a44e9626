use Rattle.std.proofs.Common.{rules}
use Rattle.ring_words.specs.Terms.{terms_of}
use Rattle.ring_words.proofs.Marshalling.{loads_published}
use Rattle.ring_words.proofs.steps.marshaller.outputs_available.Goals as goal

pub load-requires : goal.load-requires
load-requires g c = let key = c.rings.inside.table.shared.key in (
  search rules,
  search rules,
  loads_published
      (terms_of g.L.Logic.reads g.L.Logic.outputs g.L.Logic.text g.L.Logic.nothing g.L.Logic.grows key) _ _ _
      c.seat.inside.alone c.seat.inside.role,
)
