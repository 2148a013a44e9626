-- The first order of the first level of the symbol and side.
use Rattle.price_levels.specs.Ladders.{all, rung_number}
use Rattle.price_levels.proofs.Bests.{best-is}
use Rattle.price_levels.proofs.finds.best.Goals as goal

pub returns : goal.returns
returns c =
    let found = c.search_side-first.result in
    let search = c.search_side-first.ensures in
    best-is c.args.nodes.now.items (all c.args.ladders.now) c.requires c.args.symbol.now c.args.side
    (rung_number c.args.ladders.now found.0) search.before search.behind found.1 search.first
