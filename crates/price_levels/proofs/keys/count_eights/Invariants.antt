-- all eights so far are passed over, or the levels of a better price end within the next
use Rattle.std.proofs.Common.{◌≡◌, ◌<◌, ◌≤◌, ◌+◌, ◌*◌}
use Rattle.price_levels.specs.Keys.{count_better}
use Rattle.price_levels.proofs.keys.count_eights.Given as goal

abbrev pub invariant-eights : goal.invariant-eights
invariant-eights l = record {
  at : l.from + 8 * l.eights ≤ count_better l.side l.price l.levels;
  all : l.from + 8 * l.eight ≤ count_better l.side l.price l.levels → l.eights ≡ l.eight;
  end : count_better l.side l.price l.levels < l.from + 8 * l.eight
      → count_better l.side l.price l.levels < l.from + 8 * l.eights + 8;
}
