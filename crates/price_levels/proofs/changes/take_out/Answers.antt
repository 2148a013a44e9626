-- The order's level is where the search says; its neighbours meet.
use Rattle.std.proofs.Common.{refl, sym, arith}
use Rattle.price_levels.proofs.FoundLemmas.{Found, found, on, all-within, gone-room, gone-places, gone-levels}
use Rattle.price_levels.proofs.NamedLadders.{its-ladder, without-named}
use Rattle.price_levels.proofs.changes.take_out.Goals.{After-search_in-holds}
use Rattle.price_levels.proofs.changes.take_out.Goals as goal

it : (c : After-search_in-holds) → Found c.args.nodes.now.items c.args.ladders.now c.args.place c.index-node.result.now
    c.unwrap-order.result.now c.search_in-holds.result.0
it c = let search = c.search_in-holds.ensures in
    found c.requires.ladders.levels.ordered c.requires.stands c.index-node.ensures
    (sym (rw c.unwrap-order.ensures at c.as_ref.ensures.value)) refl search.rung search.home
    (record { before = search.before; behind = search.behind })

pub search_in-holds-requires-clause-belongs : goal.search_in-holds-requires-clause-belongs
search_in-holds-requires-clause-belongs c = its-ladder _ _ _ _ _ c.requires.ladders.named c.requires.stands
    c.index-node.ensures (sym (rw c.unwrap-order.ensures at c.as_ref.ensures.value))

pub shorten-requires : goal.shorten-requires
shorten-requires c = record { on = on (it (goal.at.shorten-requires c).After-search_in-holds) }

pub unseat-requires : goal.unseat-requires
unseat-requires c = let within = all-within (it (goal.at.unseat-requires c).After-search_in-holds) in
    record { place = within.0; prev = within.1; next = within.2 }

pub push_reserved-requires : goal.push_reserved-requires
push_reserved-requires c =
    let few = gone-room (it (goal.at.push_reserved-requires c).After-search_in-holds) c.requires.ladders.levels.arena in
    omega (arith, few, c.requires.capacity, c.args.free.now.ok.0)

pub returns-clause-places : goal.returns-clause-places
returns-clause-places c = rw c.unseat.ensures (gone-places (it (goal.at.returns-clause-places c).After-search_in-holds))

pub returns-clause-ladders : goal.returns-clause-ladders
returns-clause-ladders c = record {
  levels = gone-levels (it (goal.at.returns-clause-ladders c).After-search_in-holds)
      c.requires.ladders.levels.arena c.unseat.ensures c.push_reserved.ensures.items c.shorten.ensures.levels
      c.leaves.ensures;
  named = rw (c.shorten.ensures.fences, c.unseat.ensures) (without-named _ _ _ _ _ c.requires.ladders.named);
}
