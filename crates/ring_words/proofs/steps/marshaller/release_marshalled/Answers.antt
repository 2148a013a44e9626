use Rattle.std.proofs.Common.{rules, sym, subst}
use Rattle.ring_words.specs.Terms.{terms_of}
use Rattle.ring_words.specs.At.{Opened, At}
use Rattle.ring_words.specs.Steps.{WroteText}
use Rattle.ring_words.proofs.Marshalling.{stores_marshalled}
use Rattle.ring_words.proofs.steps.marshaller.release_marshalled.Goals as goal

pub store-requires : goal.store-requires
store-requires g c = let key = c.rings.inside.table.shared.key in let wrote = c.requires.text in (
  search rules,
  search rules,
  stores_marshalled (terms_of g.L.Logic.reads g.L.Logic.outputs g.L.Logic.text g.L.Logic.nothing g.L.Logic.grows key) _
      _ _ c.args.upto wrote.0 c.seat.inside.alone c.seat.inside.role c.seat.inside.home (search rules)
      (subst (λ (z : Opened g.row.L.Denot × At g.row.L.Denot). WroteText (g.L.Logic.outputs z.0.logic)
      (g.L.Logic.text z.0.logic) z.1.who wrote.0) (λ i. (sym c.rings.view_is i, sym c.seat.view_is i)) wrote.1),
)
