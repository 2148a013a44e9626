-- The level is where the search says, or there is none.
use Rattle.price_levels.proofs.Depths.{nothing-left, nobody-there, all-left, all-there}
use Rattle.price_levels.proofs.finds.depth.Goals as goal

pub returns-then-not-holds-clause-quantity : goal.returns-then-not-holds-clause-quantity
returns-then-not-holds-clause-quantity c =
    let search = c.search_in-holds.ensures in
    nothing-left _ _ c.requires _ _ (record { before = search.before; behind = search.behind }) _ search.holds
    c.if-not-holds.true

pub returns-then-not-holds-clause-orders : goal.returns-then-not-holds-clause-orders
returns-then-not-holds-clause-orders c =
    let search = c.search_in-holds.ensures in
    nobody-there _ _ c.requires _ _ (record { before = search.before; behind = search.behind }) _ search.holds
    c.if-not-holds.true

pub returns-clause-quantity : goal.returns-clause-quantity
returns-clause-quantity c =
    let search = c.search_in-holds.ensures in
    all-left _ _ c.requires _ _ (record { before = search.before; behind = search.behind }) _ search.holds
    c.if-not-holds.false _ c.level-level.ensures

pub returns-clause-orders : goal.returns-clause-orders
returns-clause-orders c =
    let search = c.search_in-holds.ensures in
    all-there _ _ c.requires _ _ (record { before = search.before; behind = search.behind }) _ search.holds
    c.if-not-holds.false _ c.level-level.ensures
