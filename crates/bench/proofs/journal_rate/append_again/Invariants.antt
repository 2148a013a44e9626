use Rattle.std.proofs.Common.{◌*◌, ◌≤◌}
use Rattle.bench.proofs.journal_rate.append_again.Given as goal

-- there is room in the journal for all blocks
abbrev pub invariant-loop-blocks : goal.invariant-loop-blocks
invariant-loop-blocks g l = l.journal.count ≤ l.blocks * 4096
