-- The neighbour, or else the first order of the next level.
use Rattle.std.proofs.Common.{refl, arith}
use Rattle.price_levels.specs.Ladders.{all}
use Rattle.price_levels.proofs.FoundLemmas.{Found, found, next-fits, next-rung, next-found, read-neighbour}
use Rattle.price_levels.proofs.NamedLadders.{its-ladder}
use Rattle.price_levels.proofs.finds.after.Goals.{After-search_in-holds}
use Rattle.price_levels.proofs.finds.after.Goals as goal

it : (c : After-search_in-holds) → Found c.args.nodes.now.items c.args.ladders.now c.args.place c.index-node.result.now
    c.unwrap-order.result c.search_in-holds.result.0
it c =
    let search = c.search_in-holds.ensures in
    found c.requires.levels c.requires.stands c.index-node.ensures c.unwrap-order.ensures refl search.rung search.home
    (record { before = search.before; behind = search.behind })

pub returns-in-Some : goal.returns-in-Some
returns-in-Some c = read-neighbour c.args.nodes.now.items (all c.args.ladders.now) c.args.place c.index-node.result.now
    c.in-Some.next c.requires.levels c.requires.stands c.index-node.ensures c.in-Some.is

pub overflow_add-next : goal.overflow_add-next
overflow_add-next c = omega (arith, next-fits (it (goal.at.overflow_add-next c).After-search_in-holds))

pub first_in-requires : goal.first_in-requires
first_in-requires c =
    let it = it (goal.at.first_in-requires c).After-search_in-holds in
    record { rung = next-rung it; home = record { belongs = it.home.belongs; alone = it.home.alone } }

pub returns-in_err-number : goal.returns-in_err-number
returns-in_err-number c = rw c.from_residual.ensures (rw c.in_err-number.was at
    (next-found (it (goal.at.returns-in_err-number c).After-search_in-holds) c.in_default.is c.first_in.result
    c.first_in.ensures))

pub returns : goal.returns
returns c = rw c.in_ok-number.was at
    (next-found (it (goal.at.returns c).After-search_in-holds) c.in_default.is c.first_in.result c.first_in.ensures)

pub search_in-holds-requires-clause-belongs : goal.search_in-holds-requires-clause-belongs
search_in-holds-requires-clause-belongs c =
    its-ladder _ _ _ _ _ c.requires.named c.requires.stands c.index-node.ensures c.unwrap-order.ensures
