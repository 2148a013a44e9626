use Rattle.std.proofs.Common.{◌≤◌}
use Rattle.ring_words.specs.At.{IsAt}
use Rattle.stages.proofs.Unmarshalling.{WroteUpTo}
use Rattle.stages.proofs.unmarshaller.write_all.Given as goal

abbrev pub invariant-loop-sequence : goal.invariant-loop-sequence
invariant-loop-sequence g l = (IsAt l.rings l.seat) × (l.sequence ≤ l.upto)
    × WroteUpTo g.row.N l.rings.logic l.fn.seat l.seat l.next l.sequence
