-- The levels of a symbol and side stand together.
use Rattle.std.proofs.Common.{◌≡◌, ◌<◌, ◌-◌, true, length, sym, subst, ◌∙◌, arith}
use Rattle.std.proofs.lemmas.Bool.Decides.{nat_tests}
use Rattle.price_levels.specs.declared.keys.Level.{Level}
use Rattle.price_levels.specs.Arena.{of_side}
use Rattle.price_levels.proofs.LadderLemmas.{all-of-ends, at-all}
use Rattle.price_levels.proofs.ladder.are_of.Goals as goal

pub returns-then-is_of : goal.returns-then-is_of
returns-then-is_of c =
    let of = λ (m : Level). of_side c.args.symbol.now c.args.side m.key ≡ true in
    let some : 0 < length c.args.levels.now = grind (arith, nat_tests, c.if-is_empty.ensures) in (
      (λ found. all-of-ends c.args.symbol.now c.args.side c.args.levels.now c.requires c.index-levels-0.result
          c.index-levels-levels.result
          (subst of c.index-levels-0.is (sym c.is_of.ensures ∙ c.if-is_of.true))
          (subst of c.index-levels-levels.is (sym c.is_of-then-is_of.ensures ∙ found))),
      (λ all. c.is_of-then-is_of.ensures ∙ subst of (sym c.index-levels-levels.is)
          (at-all of c.args.levels.now all (length c.args.levels.now - 1) c.index-levels-levels.result (omega (arith, some)))),
    )
