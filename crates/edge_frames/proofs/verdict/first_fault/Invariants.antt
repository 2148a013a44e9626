-- The first fault is that of the fields that are left.
use Rattle.std.proofs.Common.{◌≡◌, ◌≤◌, length}
use Rattle.edge_frames.specs.Fields.{ended}
use Rattle.edge_frames.specs.Faults.{first_piece_fault}
use Rattle.edge_frames.proofs.verdict.first_fault.Given as goal

abbrev pub invariant-loop-piece : goal.invariant-loop-piece
invariant-loop-piece l = record {
  same : first_piece_fault 0 l.most (ended l.body) ≡ first_piece_fault l.field l.most (ended l.rest);
  within : l.field ≤ l.most;
}

abbrev pub decreases-loop-piece : goal.decreases-loop-piece
decreases-loop-piece l = length l.rest
