-- The order's level is where the search says; its sum follows the order.
use Rattle.std.proofs.Common.{refl, rules, arith}
use Rattle.price_levels.proofs.LadderEnds.{same-key}
use Rattle.price_levels.proofs.FoundLemmas.{Found, found, on, change-stands, changed-places, changed-free}
use Rattle.price_levels.proofs.FoundLemmas.{changed-fits, changed-levels}
use Rattle.price_levels.proofs.NamedLadders.{its-ladder, changed-named}
use Rattle.price_levels.proofs.changes.change.Goals.{After-search_in-holds}
use Rattle.price_levels.proofs.changes.change.Goals as goal

it : (c : After-search_in-holds) → Found c.args.nodes.now.items c.args.ladders.now c.args.place c.index-node.result.now
    c.unwrap-old.result c.search_in-holds.result.0
it c = let search = c.search_in-holds.ensures in
    found c.requires.levels (change-stands _ _ c.requires.change) c.index-node.ensures c.unwrap-old.ensures refl
    search.rung search.home (record { before = search.before; behind = search.behind })

pub search_in-holds-requires-clause-belongs : goal.search_in-holds-requires-clause-belongs
search_in-holds-requires-clause-belongs c = its-ladder _ _ _ _ _ c.requires.named
    (change-stands _ _ c.requires.change) c.index-node.ensures c.unwrap-old.ensures

pub level-level-requires : goal.level-level-requires
level-level-requires c = on (it (goal.at.level-level-requires c).After-search_in-holds)

pub set-requires : goal.set-requires
set-requires c = let on = on (it (goal.at.set-requires c).After-search_in-holds) in
    record { on = on; key = same-key _ _ c.level-level.result _ on c.level-level.ensures refl }

pub overflow_add-level : goal.overflow_add-level
overflow_add-level c = let it = it (goal.at.overflow_add-level c).After-search_in-holds in
    omega (arith, changed-fits it _ c.requires.change c.level-level.ensures)

pub returns : goal.returns
returns c = let it = it (goal.at.returns c).After-search_in-holds in let change = c.requires.change in record {
  levels = changed-levels it _ change c.level-level.ensures c.saturating_sub.ensures c.leaves.ensures
      c.leaves-2.ensures c.set.ensures.levels;
  named = rw c.set.ensures.fences (changed-named it _ change c.requires.named);
  free = changed-free it _ change;
  places = changed-places it _ change;
  room = search rules;
}
