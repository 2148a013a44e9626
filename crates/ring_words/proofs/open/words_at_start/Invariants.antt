use Rattle.std.proofs.Common.{◌≡◌, ℕ, ◌<◌, length, slice_index_or}
use Rattle.ring_words.specs.Rule.{opening_word}
use Rattle.ring_words.proofs.open.words_at_start.Given as goal

abbrev pub invariant-loop-place : goal.invariant-loop-place
invariant-loop-place l = (length l.words.items ≡ l.place)
    × ((k : ℕ) → k < l.place → slice_index_or l.words.items k 0 ≡ opening_word l.start l.base_outputs k)
