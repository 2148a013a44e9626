-- No message begins at any of the bytes that were passed over.
use Rattle.std.proofs.Common.{◌≤◌, ◌-◌, length, take, drop}
use Rattle.edge_frames.specs.Stream.{ArePassed}
use Rattle.edge_frames.proofs.found.look.Given as goal

abbrev pub invariant-loop-passed : goal.invariant-loop-passed
invariant-loop-passed l = record {
  within : l.passed ≤ length l.bytes;
  passed : ArePassed l.longest (length l.fn.places) (take l.passed l.bytes) (drop l.passed l.bytes);
}

abbrev pub decreases-loop-passed : goal.decreases-loop-passed
decreases-loop-passed l = length l.bytes - l.passed
