use Rattle.std.proofs.Common.{◌≡◌, sym, ◌∙◌}
use Rattle.std.proofs.Common.{length, false}
use Rattle.std.specs.Prelude.{nat_lt}
use Rattle.std.proofs.lemmas.Bool.Decides.{nat_tests}
use Rattle.std.proofs.Common.{arith}
use Rattle.price_levels.specs.Keys.{key_with}
use Rattle.price_levels.proofs.LevelLists.{holds-is, holds-beyond}
use Rattle.price_levels.proofs.finds.holds.Goals as goal

pub returns-then-at-levels : goal.returns-then-at-levels
returns-then-at-levels c =
    c.is_level.ensures ∙ sym (holds-is c.args.levels.now c.args.at
    (key_with c.args.symbol.now c.args.side c.args.price) c.index-levels-at.result c.if-at-levels.true
    c.index-levels-at.is)

pub returns-else-at-levels : goal.returns-else-at-levels
returns-else-at-levels c =
    let beyond : nat_lt c.args.at (length c.args.levels.now) ≡ false = grind (arith, nat_tests, c.if-at-levels.false) in
    beyond ∙ sym (holds-beyond c.args.levels.now c.args.at (key_with c.args.symbol.now c.args.side c.args.price)
    c.if-at-levels.false)
