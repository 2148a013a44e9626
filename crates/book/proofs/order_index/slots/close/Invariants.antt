-- The gap has moved on so far, and the names have the places that they had.
use Rattle.book.proofs.SlotClosings.{Closes}
use Rattle.book.proofs.order_index.slots.close.Given as goal

abbrev pub invariant-loop-steps : goal.invariant-loop-steps
invariant-loop-steps l = Closes l.fn.slots.items l.slots.items l.start l.gap l.steps
