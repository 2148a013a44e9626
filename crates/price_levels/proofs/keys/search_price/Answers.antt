-- Those of a better price stand first, since the levels stand in order: the place is where they end.
use Rattle.venue_model.specs.declared.orders.Side.TheVariants.{Buy, Sell}
use Rattle.price_levels.proofs.SearchLemmas.{better-first, before-better, behind-better}
use Rattle.price_levels.proofs.keys.search_price.Goals as goal

pub count_better-requires : goal.count_better-requires
count_better-requires c =
    λ i j d le lt h. better-first c.args.key.now Buy c.in-Buy.is c.args.levels.now c.requires.order c.requires.one i j d
    le lt h

pub count_better-requires-in-Sell : goal.count_better-requires-in-Sell
count_better-requires-in-Sell c =
    λ i j d le lt h. better-first c.args.key.now Sell c.in-Sell.is c.args.levels.now c.requires.order c.requires.one i j
    d le lt h

pub returns-in-Buy-clause-before : goal.returns-in-Buy-clause-before
returns-in-Buy-clause-before c =
    before-better c.args.key.now Buy c.in-Buy.is c.args.levels.now c.requires.order c.requires.one c.count_better.result
    c.count_better.ensures

pub returns-in-Buy-clause-behind : goal.returns-in-Buy-clause-behind
returns-in-Buy-clause-behind c =
    behind-better c.args.key.now Buy c.in-Buy.is c.args.levels.now c.requires.order c.requires.one c.count_better.result
    c.count_better.ensures

pub returns-in-Sell-clause-before : goal.returns-in-Sell-clause-before
returns-in-Sell-clause-before c =
    before-better c.args.key.now Sell c.in-Sell.is c.args.levels.now c.requires.order c.requires.one
    c.count_better-in-Sell.result
    c.count_better-in-Sell.ensures

pub returns-in-Sell-clause-behind : goal.returns-in-Sell-clause-behind
returns-in-Sell-clause-behind c =
    behind-better c.args.key.now Sell c.in-Sell.is c.args.levels.now c.requires.order c.requires.one
    c.count_better-in-Sell.result
    c.count_better-in-Sell.ensures
