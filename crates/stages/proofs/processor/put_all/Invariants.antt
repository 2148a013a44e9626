use Rattle.std.proofs.Common.{◌≡◌}
use Rattle.ring_words.specs.At.{IsAt, seated}
use Rattle.stages.specs.Processes.{put_ahead}
use Rattle.stages.proofs.processor.put_all.Given as goal

abbrev pub invariant-loop-output : goal.invariant-loop-output
invariant-loop-output g l = (IsAt l.rings l.seat)
    × (l.seat ≡ seated l.fn.seat (put_ahead l.fn.seat.who l.output-index))
