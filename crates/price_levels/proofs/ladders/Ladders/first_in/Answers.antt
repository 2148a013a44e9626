-- No level of the symbol and side stands in another ladder.
use Rattle.std.proofs.Common.{List, sym, ap, ◌∙◌}
use Rattle.price_levels.specs.declared.keys.Level.{Level}
use Rattle.price_levels.specs.Arena.{first_in}
use Rattle.price_levels.proofs.LadderCalls.{one-ladder, first-is, rung-here}
use Rattle.price_levels.proofs.ladders.Ladders.first_in.Goals as goal

pub returns : goal.returns
returns c =
    let rung = c.requires.rung in
    let it = one-ladder c.self.inside.ladders.items c.args.rung c.self.view_is rung.ladder c.index.ensures in
    c.first_in.ensures ∙ ap (λ (levels : List Level). first_in c.args.symbol.now c.args.side levels c.args.rung.at)
    c.levels.ensures
    ∙ sym (first-is it c.args.symbol.now c.args.side (rung-here it rung) c.requires.home.alone)
