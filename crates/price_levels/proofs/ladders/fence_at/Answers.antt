-- The first fence that they are before, or none.
use Rattle.std.proofs.Common.{◌≡◌, sym, subst, ◌∙◌, arith, length}
use Rattle.price_levels.specs.Ladders.{BelongsToHome}
use Rattle.price_levels.proofs.LadderLemmas.{belongs-here, belongs-last}
use Rattle.price_levels.proofs.ladders.fence_at.Goals as goal

pub returns-then-comes_before_side-clause-belongs : goal.returns-then-comes_before_side-clause-belongs
returns-then-comes_before_side-clause-belongs c =
    belongs-here c.args.fences.now c.fences.at c.args.symbol.now c.args.side c.index-fences-at.result
    c.index-fences-at-in-fences.result
    c.fences.invariant c.fences-test.true (sym c.comes_before_side.ensures ∙ c.if-comes_before_side.true)

pub returns-clause-belongs : goal.returns-clause-belongs
returns-clause-belongs c =
    let all : c.fences.at ≡ length c.args.fences.now = omega (arith, c.fences-test.false, c.fences.auto.at-end) in
    subst (λ n. BelongsToHome c.args.fences.now n c.args.symbol.now c.args.side) all
    (belongs-last c.args.fences.now c.fences.at c.args.symbol.now c.args.side c.fences.invariant all)
