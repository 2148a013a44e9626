use Rattle.ring_words.specs.At.{IsAt}
use Rattle.barrier.proofs.TextReading.{Reads}
use Rattle.barrier.proofs.taking.read_text.Given as goal

abbrev pub invariant-loop-index : goal.invariant-loop-index
invariant-loop-index g l = (IsAt l.rings l.seat) × Reads (g.L.Logic.outputs l.rings.logic)
    (g.L.Logic.text l.rings.logic) l.fn.seat l.seat l.place l.head l.buf l.index
