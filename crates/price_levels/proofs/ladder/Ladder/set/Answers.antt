-- A level behind the gap is written.
use Rattle.std.proofs.Common.{ap, ◌∙◌}
use Rattle.std.specs.Prelude.{slice_set}
use Rattle.std.proofs.lemmas.List.{drop-set-add}
use Rattle.price_levels.specs.Ladders.{Levelled}
use Rattle.price_levels.proofs.ladder.Ladder.set.Goals as goal

pub returns-clause-levels : goal.returns-clause-levels
returns-clause-levels c =
    drop-set-add c.self.inside.start c.self.inside.list.items c.args.at c.args.level
    ∙ ap (λ (s : Levelled). slice_set s.items c.args.at c.args.level) c.self.view_is
