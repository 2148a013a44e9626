-- One ladder has room for one more level, since all have no more than there is room for.
use Rattle.std.proofs.Common.{sym, ap, subst, arith, List}
use Rattle.std.specs.List.{AllByRecursion}
use Rattle.price_levels.specs.declared.keys.Level.{Level}
use Rattle.price_levels.specs.declared.ladders.Fence.{Fence}
use Rattle.price_levels.specs.Ladders.{Laddered, BelongsToHome}
use Rattle.price_levels.proofs.LadderCalls.{OneLadder, one-ladder, insert-is, ladders-with, belong-insert, roomy-there}
use Rattle.price_levels.proofs.LadderCalls.{rung-here, no-longer}
use Rattle.price_levels.proofs.ladders.Ladders.insert.Goals.{After-index_mut}
use Rattle.price_levels.proofs.ladders.Ladders.insert.Goals as goal

it : (c : After-index_mut) → OneLadder c.args.self.now c.self.inside.ladders.items c.args.rung c.index_mut.result.now
it c = one-ladder _ _ c.self.view_is c.requires.rung.ladder c.index_mut.ensures.value

pub insert-requires : goal.insert-requires
insert-requires c =
    let it = it (goal.at.insert-requires c).After-index_mut in
    let roomy = roomy-there it c.self.invariant in
    let few = no-longer it in
    let room = ap (λ (l : Laddered). l.room) c.self.view_is in
    record { at = rung-here it c.requires.rung; room = omega (arith, roomy, few, room, c.requires.room) }

pub invariant_of-self : goal.invariant_of-self
invariant_of-self c =
    let it = it (goal.at.invariant_of-self c).After-index_mut in
    let roomy = roomy-there it c.self.invariant in
    let its = subst (λ (f : List Fence). BelongsToHome f c.args.rung.ladder c.args.level.key.symbol
    c.args.level.key.side) (sym (ap (λ (l : Laddered). l.fences) c.self.view_is)) c.requires.home.belongs in
    ladders-with it c.insert.new.self c.self.invariant
    (subst (AllByRecursion (λ (m : Level). BelongsToHome c.self.inside.fences.items c.args.rung.ladder m.key.symbol
    m.key.side)) (sym c.insert.ensures.levels) (belong-insert it c.self.invariant c.args.level its))
    (omega (arith, roomy, c.insert.ensures.room))

pub returns-clause-levels : goal.returns-clause-levels
returns-clause-levels c =
    let it = it (goal.at.returns-clause-levels c).After-index_mut in
    insert-is it c.insert.new.self c.args.level (rung-here it c.requires.rung) c.insert.ensures.levels
