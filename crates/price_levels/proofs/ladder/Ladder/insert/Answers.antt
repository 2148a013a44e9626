-- The levels ahead of it move into the gap, or there is room for those behind it.
use Rattle.std.proofs.Common.{◌+◌, ◌≤◌, ◌<◌, length, arith}
use Rattle.std.specs.Vec.{vec_len, vec_capacity}
use Rattle.std.proofs.lemmas.List.{length-drop}
use Rattle.price_levels.proofs.Ends.{when-ok}
use Rattle.price_levels.proofs.GapLemmas.{comes-ahead, comes-behind}
use Rattle.price_levels.proofs.ladder.Ladder.insert.Goals.{After-self}
use Rattle.price_levels.proofs.ladder.Ladder.insert.Goals as goal

within : (c : After-self) → c.self.inside.start + c.args.at ≤ length c.self.inside.list.items
within c =
    let at = rw (← c.self.view_is, length-drop) at c.requires.at in
    omega (arith, at, c.self.invariant.within)

fits : (c : After-self) → vec_len c.self.inside.list < vec_capacity c.self.inside.list
fits c =
    let room = rw (← c.self.view_is, length-drop) at c.requires.room in
    omega (arith, room, c.self.invariant.within, c.self.invariant.short, c.self.inside.list.ok.0)

pub returns-then-at-len-clause-levels : goal.returns-then-at-len-clause-levels
returns-then-at-len-clause-levels c =
    let at = goal.at.returns-then-at-len-clause-levels c in
    rw (← c.self.view_is, c.copy_within.ensures.items)
    (comes-ahead c.self.inside.list.items c.self.inside.start c.args.at c.args.level c.if-self-gt0.true
    (within at.After-self))

pub returns-else-self-gt0-clause-levels : goal.returns-else-self-gt0-clause-levels
returns-else-self-gt0-clause-levels c =
    let at = goal.at.returns-else-self-gt0-clause-levels c in
    rw (← c.self.view_is, c.insert.ensures.items)
    (rw (when-ok c.insert.result _ _ (c.insert.ensures.succeeds (fits at.After-self)))
    (comes-behind c.self.inside.list.items c.self.inside.start c.args.at c.args.level (within at.After-self)))
