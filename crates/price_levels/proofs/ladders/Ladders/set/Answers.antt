-- One level of one ladder is written, under its key.
use Rattle.std.proofs.Common.{sym, subst, arith}
use Rattle.std.specs.List.{AllByRecursion}
use Rattle.price_levels.specs.declared.keys.Level.{Level}
use Rattle.price_levels.specs.Ladders.{BelongsToHome}
use Rattle.price_levels.proofs.LadderCalls.{one-ladder, set-is, ladders-with, belong-set, roomy-there, on-here}
use Rattle.price_levels.proofs.ladders.Ladders.set.Goals as goal

pub set-requires : goal.set-requires
set-requires c =
    let on = c.requires.on in
    on-here (one-ladder c.self.inside.ladders.items c.args.rung c.self.view_is on.ladder c.index_mut.ensures.value) on

pub invariant_of-self : goal.invariant_of-self
invariant_of-self c =
    let on = c.requires.on in
    let it = one-ladder c.self.inside.ladders.items c.args.rung c.self.view_is on.ladder c.index_mut.ensures.value in
    let roomy = roomy-there it c.self.invariant in
    ladders-with it c.set.new.self c.self.invariant
    (subst (AllByRecursion (λ (m : Level). BelongsToHome c.self.inside.fences.items c.args.rung.ladder m.key.symbol
    m.key.side)) (sym c.set.ensures.levels)
    (belong-set it c.self.invariant c.args.level (on-here it on) c.requires.key))
    (omega (arith, roomy, c.set.ensures.room))

pub returns-clause-levels : goal.returns-clause-levels
returns-clause-levels c =
    let on = c.requires.on in
    let it = one-ladder c.self.inside.ladders.items c.args.rung c.self.view_is on.ladder c.index_mut.ensures.value in
    set-is it c.set.new.self c.args.level (on-here it on) c.set.ensures.levels
