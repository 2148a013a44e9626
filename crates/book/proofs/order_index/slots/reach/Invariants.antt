-- The slots on the way so far are taken by entries of other names.
use Rattle.std.proofs.Common.{◌≡◌, ℕ, ◌<◌, false}
use Rattle.book.specs.Slots.{at, ends_way, home, slot_from}
use Rattle.book.proofs.order_index.slots.reach.Given as goal

abbrev pub invariant-loop-steps : goal.invariant-loop-steps
invariant-loop-steps l = (before : ℕ) → before < l.steps
    → ends_way l.client l.name (at l.slots (slot_from (home l.client l.name) before)) ≡ false
