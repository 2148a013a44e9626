-- All may stand where those that are left may.
use Rattle.std.proofs.Common.{◌≡◌, length}
use Rattle.std.specs.List.{list_all}
use Rattle.edge_frames.specs.Fields.{ended, may_stand}
use Rattle.edge_frames.proofs.piece.are_others.Given as goal

abbrev pub invariant-loop-piece : goal.invariant-loop-piece
invariant-loop-piece l = list_all may_stand (ended l.bytes) ≡ list_all may_stand (ended l.rest)

abbrev pub decreases-loop-piece : goal.decreases-loop-piece
decreases-loop-piece l = length l.rest
