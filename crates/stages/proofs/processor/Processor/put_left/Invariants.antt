-- Some rounds were made, and the others are left.
use Rattle.std.proofs.Common.{◌≡◌, ℕ, length}
use Rattle.ring_words.specs.At.{IsAt, SamePlace}
use Rattle.stages.specs.Insides.{upto}
use Rattle.stages.specs.Processes.{PutsRounds}
use Rattle.stages.proofs.processor.Processor.put_left.Given as goal

abbrev pub invariant-rounds : goal.invariant-rounds
invariant-rounds g l = let old = l.initial.self in
    (IsAt l.rings l.self.seat) × (SamePlace old.seat l.self.seat)
    × (l.self.applied ≡ old.applied) × (l.self.book ≡ old.book)
    × (l.self.seat.who.sequence ≡ old.seat.who.sequence) × (upto l.self ≡ upto old)
    × ((k : ℕ) × PutsRounds g.row.M g.row.G (upto old) k old.seat.who l.self.seat.who)

abbrev pub decreases-rounds : goal.decreases-rounds
decreases-rounds g l = length l.self.left
