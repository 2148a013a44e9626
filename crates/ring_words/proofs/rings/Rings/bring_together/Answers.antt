use Rattle.std.proofs.Common.{rules, ◌∙◌, ap}
use Rattle.ring_words.specs.Slots.{Boxed}
use Rattle.ring_words.specs.Terms.{terms_of}
use Rattle.ring_words.specs.Seats.{person}
use Rattle.ring_words.specs.Steps.{Seated}
use Rattle.ring_words.proofs.Seatings.{joins, spares}
use Rattle.ring_words.proofs.rings.Rings.bring_together.Goals as goal

pub split_seat-spare-requires : goal.split_seat-spare-requires
split_seat-spare-requires g c = let key = c.self.inside.table.shared.key in (
  search rules,
  search rules,
  spares
      (terms_of g.L.Logic.reads g.L.Logic.outputs g.L.Logic.text g.L.Logic.nothing g.L.Logic.grows key) _ _,
)

pub join_seat-requires : goal.join_seat-requires
join_seat-requires g c = let key = c.self.inside.table.shared.key in (
  search rules,
  search rules,
  search rules,
  search rules,
  joins (terms_of g.L.Logic.reads g.L.Logic.outputs g.L.Logic.text g.L.Logic.nothing g.L.Logic.grows key) _ _ _ _
      (person c.args.first.now.me.0) _
      (ap (λ (z : Seated Boxed g.row.L.Denot). z.0.people) c.split_seat-spare.ensures.2 ∙ c.requires.first.2),
)
