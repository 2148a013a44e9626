-- the levels of a better price end between the two places
use Rattle.std.proofs.Common.{◌≤◌, ◌-◌, length}
use Rattle.price_levels.specs.Keys.{count_better}
use Rattle.price_levels.proofs.keys.halve.Given as goal

abbrev pub invariant-loop-upto : goal.invariant-loop-upto
invariant-loop-upto l = record {
  from : l.from ≤ count_better l.side l.price l.levels;
  upto : count_better l.side l.price l.levels ≤ l.upto;
  within : l.upto ≤ length l.levels;
}

abbrev pub decreases-loop-upto : goal.decreases-loop-upto
decreases-loop-upto l = l.upto - l.from
