-- what is summed, and what the levels to come add to it
use Rattle.std.proofs.Common.{◌≡◌, ◌+◌, drop}
use Rattle.price_levels.specs.Arena.{crossed_left}
use Rattle.price_levels.proofs.finds.crossed_left.Given as goal

abbrev pub invariant-levels : goal.invariant-levels
invariant-levels l = l.total + crossed_left l.symbol l.side l.price
    (drop l.level-index l.levels) ≡ crossed_left l.symbol l.side l.price l.levels
