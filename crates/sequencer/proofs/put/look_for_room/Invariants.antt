use Rattle.ring_words.specs.At.{IsAt}
use Rattle.sequencer.proofs.Rooms.{LookedBelow}
use Rattle.sequencer.proofs.put.look_for_room.Given as goal

abbrev pub invariant-loop-gateway : goal.invariant-loop-gateway
invariant-loop-gateway g l = (IsAt l.rings l.seat) × LookedBelow g.row.M l.fn.seat l.seat l.gateway l.least
