use Rattle.std.proofs.Common.{◌≤◌}
use Rattle.ring_words.specs.At.{IsAt}
use Rattle.book.specs.Histories.{outputs_of}
use Rattle.stages.proofs.Marshalling.{WroteUpTo}
use Rattle.stages.proofs.marshaller.write_all.Given as goal

abbrev pub invariant-loop-place : goal.invariant-loop-place
invariant-loop-place g l = (IsAt l.rings l.seat) × (l.place ≤ l.upto)
    × WroteUpTo g.row.N g.row.M (outputs_of l.rings.logic) l.fn.seat l.seat l.next l.place
