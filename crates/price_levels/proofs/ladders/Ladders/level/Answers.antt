-- The level of one ladder is that of all levels there.
use Rattle.price_levels.proofs.LadderCalls.{one-ladder, level-is, on-here}
use Rattle.price_levels.proofs.ladders.Ladders.level.Goals as goal

pub returns : goal.returns
returns c =
    let it = one-ladder c.self.inside.ladders.items c.args.rung c.self.view_is c.requires.ladder c.index.ensures in
    level-is it c.level.result (on-here it c.requires) c.level.ensures

pub level-requires : goal.level-requires
level-requires c =
    on-here (one-ladder c.self.inside.ladders.items c.args.rung c.self.view_is c.requires.ladder c.index.ensures)
    c.requires
