use Rattle.std.proofs.Common.{◌≡◌, take}
use Rattle.ring_words.specs.Seats.{wrote}
use Rattle.ring_words.specs.At.{IsAt, seated}
use Rattle.barrier.proofs.commands.write_command.Given as goal

abbrev pub invariant-loop-index : goal.invariant-loop-index
invariant-loop-index g l = let v = l.fn.seat in
    (IsAt l.rings l.seat) × (l.seat ≡ seated v (wrote v.who l.sequence (take l.index l.words)))
