use Rattle.std.proofs.Common.{◌≡◌, List, length}
use Rattle.venue_model.specs.History.{Message}
use Rattle.ring_words.specs.At.{IsAt}
use Rattle.barrier.specs.Availability.{AreEntries}
use Rattle.barrier.proofs.Looks.{Grew}
use Rattle.barrier.proofs.availability.available.Given as goal

abbrev pub invariant-loop : goal.invariant-loop
invariant-loop g l = (IsAt l.rings l.seat) × (l.counter ≡ length l.seat.who.seen)
    × ((rest : List Message) × AreEntries rest × Grew g.row.N l.fn.seat rest l.seat)
