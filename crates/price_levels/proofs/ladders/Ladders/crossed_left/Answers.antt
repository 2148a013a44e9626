-- No level of the other side stands in another ladder.
use Rattle.std.proofs.Common.{◌≡◌, ◌<◌, ◌-◌, ◌^◌, sym, ap, subst, ◌∙◌, take, drop, length, List}
use Rattle.price_levels.specs.declared.keys.Level.{Level}
use Rattle.price_levels.specs.Arena.{crossed_left}
use Rattle.price_levels.specs.Ladders.{all, rung_number}
use Rattle.price_levels.proofs.LadderCalls.{one-ladder, crossed-is, rung-here}
use Rattle.price_levels.proofs.ladders.Ladders.crossed_left.Goals.{After-levels}
use Rattle.price_levels.proofs.ladders.Ladders.crossed_left.Goals as goal

same : (c : After-levels)
    → crossed_left c.args.symbol.now c.args.side c.args.price (drop (rung_number c.args.self.now c.args.rung)
    (all c.args.self.now)) ≡ crossed_left c.args.symbol.now c.args.side c.args.price
    (take (length c.levels.result.now - c.args.rung.at) (drop c.args.rung.at c.levels.result.now))
same c =
    let rung = c.requires.rung in
    let it = one-ladder c.self.inside.ladders.items c.args.rung c.self.view_is rung.ladder c.index.ensures in
    crossed-is it c.args.symbol.now c.args.side c.args.price (rung-here it rung) c.requires.home.alone
    ∙ ap (λ (levels : List Level). crossed_left c.args.symbol.now c.args.side c.args.price
    (take (length levels - c.args.rung.at) (drop c.args.rung.at levels))) (sym c.levels.ensures)

pub crossed_left-requires : goal.crossed_left-requires
crossed_left-requires c =
    subst (λ n. n < 2 ^ 64) (same (goal.at.crossed_left-requires c).After-levels) c.requires.fits

pub returns : goal.returns
returns c = c.crossed_left.ensures ∙ sym (same (goal.at.returns c).After-levels)
