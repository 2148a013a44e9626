-- a hundred blocks at most for each round so far
use Rattle.std.proofs.Common.{◌*◌, ◌≤◌}
use Rattle.part_tests.proofs.tests.failing_disks.add_blocks.Given as goal

abbrev pub invariant-loop-number : goal.invariant-loop-number
invariant-loop-number l = l.journal.count ≤ 100 * l.number
