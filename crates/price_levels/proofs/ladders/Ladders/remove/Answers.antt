-- One ladder loses a level.
use Rattle.std.proofs.Common.{sym, subst, arith}
use Rattle.std.specs.List.{AllByRecursion}
use Rattle.price_levels.specs.declared.keys.Level.{Level}
use Rattle.price_levels.specs.Ladders.{BelongsToHome}
use Rattle.price_levels.proofs.LadderCalls.{one-ladder, remove-is, ladders-with, belong-remove, roomy-there, on-here}
use Rattle.price_levels.proofs.ladders.Ladders.remove.Goals as goal

pub remove-requires : goal.remove-requires
remove-requires c =
    on-here (one-ladder c.self.inside.ladders.items c.args.rung c.self.view_is c.requires.ladder
    c.index_mut.ensures.value) c.requires

pub invariant_of-self : goal.invariant_of-self
invariant_of-self c =
    let it = one-ladder c.self.inside.ladders.items c.args.rung c.self.view_is c.requires.ladder
    c.index_mut.ensures.value in
    let roomy = roomy-there it c.self.invariant in
    ladders-with it c.remove.new.self c.self.invariant
    (subst (AllByRecursion (λ (m : Level). BelongsToHome c.self.inside.fences.items c.args.rung.ladder m.key.symbol
    m.key.side)) (sym c.remove.ensures.levels) (belong-remove it c.self.invariant))
    (omega (arith, roomy, c.remove.ensures.room))

pub returns-clause-levels : goal.returns-clause-levels
returns-clause-levels c =
    let it = one-ladder c.self.inside.ladders.items c.args.rung c.self.view_is c.requires.ladder
    c.index_mut.ensures.value in
    remove-is it c.remove.new.self (on-here it c.requires) c.remove.ensures.levels
