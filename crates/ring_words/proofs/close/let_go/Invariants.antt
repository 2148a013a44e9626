use Rattle.std.proofs.Common.{◌≡◌, ℕ, ◌<◌, ◌≤◌, false, true, slice_index_or}
use Rattle.ring_words.proofs.close.let_go.Given as goal

abbrev pub invariant-loop-row : goal.invariant-loop-row
invariant-loop-row l = (l.closed.slots.len ≡ l.row-end)
    × ((k : ℕ) → l.row ≤ k → k < l.closed.slots.len → slice_index_or l.closed.slots.filled k false ≡ true)
    × ((k : ℕ) → k < l.row → slice_index_or l.closed.slots.filled k false ≡ false)
