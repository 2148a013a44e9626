use Rattle.sequencer.proofs.Rooms.{KeptBelow}
use Rattle.sequencer.proofs.put.kept_room.Given as goal

abbrev pub invariant-loop-number : goal.invariant-loop-number
invariant-loop-number g l = KeptBelow l.seat.who l.number l.least
