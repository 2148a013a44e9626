-- So far the session lives, as it was begun, and delivers what it delivered.
use Rattle.stages.specs.Devices.{device}
use Rattle.venue.specs.Venues.{venue}
use Rattle.venue.proofs.ServingLemmas.{SoFar}
use Rattle.venue.proofs.serving.take_turns.Given as goal

abbrev pub invariant-loop-round : goal.invariant-loop-round
invariant-loop-round g l = let D = g.D.JournalDisk in let tells = g.W.Wire.tells in
    SoFar (device D.honest D.tells D.failed) (venue l.rings l.fn.gateway l.fn.crew (tells l.fn.wire)) l._round
    (venue l.rings l.gateway l.crew (tells l.wire))
