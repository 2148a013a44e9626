-- So far the bytes begin a head.
use Rattle.std.proofs.Common.{◌≤◌, ◌-◌, length, take}
use Rattle.fix_frame.specs.Stages.{IsHeading}
use Rattle.fix_frame.proofs.opening.open_body.Given as goal

abbrev pub invariant-loop-at : goal.invariant-loop-at
invariant-loop-at l = record {
  within : l.at ≤ length l.bytes;
  heading : IsHeading (take l.at l.bytes) l.so_far;
}

abbrev pub decreases-loop-at : goal.decreases-loop-at
decreases-loop-at l = length l.bytes - l.at
