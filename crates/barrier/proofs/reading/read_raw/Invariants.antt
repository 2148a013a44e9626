use Rattle.ring_words.specs.At.{IsAt}
use Rattle.barrier.proofs.Words.{Reads}
use Rattle.barrier.proofs.reading.read_raw.Given as goal

abbrev pub invariant-loop-index : goal.invariant-loop-index
invariant-loop-index g l = (IsAt l.rings l.seat) × Reads g.row.N l.fn.seat l.seat l.sequence l.raw l.buf l.index
