-- The field is there where it is among those that are left.
use Rattle.std.proofs.Common.{◌≡◌, take}
use Rattle.edge_frames.specs.Fields.{ended}
use Rattle.edge_frames.specs.Faults.{has_tag}
use Rattle.edge_frames.proofs.verdict.has.Given as goal

abbrev pub invariant-loop-room : goal.invariant-loop-room
invariant-loop-room l = has_tag l.tag (take l.most (ended l.body)) ≡ has_tag l.tag (take l.room (ended l.rest))

abbrev pub decreases-loop-room : goal.decreases-loop-room
decreases-loop-room l = l.room
