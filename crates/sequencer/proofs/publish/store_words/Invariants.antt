use Rattle.std.proofs.Common.{◌≡◌, ◌+◌, ◌≤◌}
use Rattle.ring_words.specs.Seats.{wrote}
use Rattle.ring_words.specs.At.{IsAt, seated, number}
use Rattle.sequencer.specs.Words.{first_words}
use Rattle.sequencer.proofs.publish.store_words.Given as goal

abbrev pub invariant-loop-index : goal.invariant-loop-index
invariant-loop-index g l = (IsAt l.rings l.seat) × ((1 ≤ number l.fn.seat) × (number l.fn.seat ≤ 8))
    × (l.seat ≡ seated l.fn.seat (wrote l.fn.seat.who l.sequence
    (first_words (record { gateway = number l.fn.seat; bytes = l.bytes }) (l.index + 1))))
