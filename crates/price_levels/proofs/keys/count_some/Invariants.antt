-- no more are counted than looked at; if those of a better price stand first, all so far are counted, or those ended
use Rattle.std.proofs.Common.{◌≡◌, ◌≤◌, ◌+◌}
use Rattle.price_levels.specs.Keys.{count_better, BetterFirst}
use Rattle.price_levels.proofs.keys.count_some.Given as goal

abbrev pub invariant-levels : goal.invariant-levels
invariant-levels l = record {
  most : l.at ≤ l.from + l.next;
  all : BetterFirst l.side l.price l.levels → l.from + l.next ≤ count_better l.side l.price l.levels
      → l.at ≡ l.from + l.next;
  end : BetterFirst l.side l.price l.levels → l.from ≤ count_better l.side l.price l.levels
      → count_better l.side l.price l.levels ≤ l.from + l.next → l.at ≡ count_better l.side l.price l.levels;
}
