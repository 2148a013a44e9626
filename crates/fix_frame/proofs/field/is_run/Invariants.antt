-- The bytes are a run where what is left is one, and SOH ends that.
use Rattle.std.proofs.Common.{◌<◌, ◌↔◌, length}
use Rattle.fix_frame.specs.Cuts.{EndsInSoh}
use Rattle.fix_frame.specs.Runs.{IsRun}
use Rattle.fix_frame.proofs.field.is_run.Given as goal

abbrev pub invariant-loop-rest : goal.invariant-loop-rest
invariant-loop-rest l = record {
  same : IsRun l.bytes ↔ IsRun l.rest;
  ends : 0 < length l.rest → EndsInSoh l.rest;
}

abbrev pub decreases-loop-rest : goal.decreases-loop-rest
decreases-loop-rest l = length l.rest
