-- The last free place is taken; the order joins its level there, or opens one.
use Rattle.std.proofs.Common.{rules, refl, arith}
use Rattle.price_levels.proofs.LadderEnds.{same-key}
use Rattle.price_levels.proofs.JoinLemmas.{Comes, comes, vacant-there, join-last, join-fits, count-fits, joins}
use Rattle.price_levels.proofs.JoinLemmas.{open-room, opens}
use Rattle.price_levels.proofs.changes.push.Goals.{After-search_in-holds}
use Rattle.price_levels.proofs.changes.push.Goals as goal

it : (c : After-search_in-holds) → Comes c.args.nodes.now.items c.pop.new.self.items c.args.ladders.now
    c.unwrap-place.result c.search_in-holds.result.0 c.args.order.now c.search_in-holds.result.1
it c = let search = c.search_in-holds.ensures in
    comes c.requires.ladders c.pop.ensures.items c.unwrap-place.ensures refl
    (record { before = search.before; behind = search.behind }) search.holds c.requires.quantity c.requires.later

pub level-level-requires : goal.level-level-requires
level-level-requires c = c.search_in-holds.ensures.on c.if-holds.true

pub seat-requires : goal.seat-requires
seat-requires c = let it = it (goal.at.seat-requires c).After-search_in-holds in
    record { last = join-last it c.if-holds.true c.level-level.ensures; place = (vacant-there it).0 }

pub seat-requires-else-holds-clause-place : goal.seat-requires-else-holds-clause-place
seat-requires-else-holds-clause-place c =
    (vacant-there (it (goal.at.seat-requires-else-holds-clause-place c).After-search_in-holds)).0

pub overflow_add-longer : goal.overflow_add-longer
overflow_add-longer c = let it = it (goal.at.overflow_add-longer c).After-search_in-holds in
    omega (arith, join-fits it c.if-holds.true c.level-level.ensures)

pub overflow_add-longer-then-holds : goal.overflow_add-longer-then-holds
overflow_add-longer-then-holds c = let it = it (goal.at.overflow_add-longer-then-holds c).After-search_in-holds in
    omega (arith, count-fits it c.if-holds.true c.level-level.ensures)

pub set-requires-clause-key : goal.set-requires-clause-key
set-requires-clause-key c = same-key _ _ c.level-level.result _ (c.search_in-holds.ensures.on c.if-holds.true)
    c.level-level.ensures refl

pub insert-requires-clause-room : goal.insert-requires-clause-room
insert-requires-clause-room c = open-room (it (goal.at.insert-requires-clause-room c).After-search_in-holds)
    c.if-holds.false c.requires.room

pub returns-then-holds : goal.returns-then-holds
returns-then-holds c =
    let it = it (goal.at.returns-then-holds c).After-search_in-holds in let ladder = c.ladder_of-ladder in
    let is = joins it c.if-holds.true c.level-level.ensures ladder.result c.seat.ensures ladder.ensures c.leaves.ensures
    c.set.ensures.levels c.set.ensures.fences in
    record { ladders = is.stands; free = vacant-there it; places = is.places; capacity = search rules }

pub returns-else-holds : goal.returns-else-holds
returns-else-holds c =
    let it = it (goal.at.returns-else-holds c).After-search_in-holds in let ladder = c.ladder_of-ladder in
    let is = opens it c.if-holds.false ladder.result c.seat-else-holds.ensures ladder.ensures
    c.leaves-else-holds.ensures c.key_of.ensures c.insert.ensures.levels c.insert.ensures.fences in
    record { ladders = is.stands; free = vacant-there it; places = is.places; capacity = search rules }
