-- Which sequences of the input ring are in use.
use Rattle.std.specs.Prelude.{ℕ, ◌<◌, ◌≤◌}
use Rattle.atomic_table.specs.Table.{State}
use Rattle.ring_words.specs.Slots.{Boxed}
use Rattle.ring_words.specs.declared.view.View.{View}
use Rattle.ring_words.specs.Places.{processed, claim}
use Rattle.ring_words.specs.Rule.{words_of}

-- a sequence is in use from its claim until it is processed: it lies below the claim word, and not below the processed one
abbrev pub IsInUse : {L : Type 0} → State Boxed (View L) → ℕ → Type 0
IsInUse s sequence = (words_of s processed ≤ sequence) × (sequence < words_of s claim)
