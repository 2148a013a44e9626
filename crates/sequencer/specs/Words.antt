-- A message on its way into its row.
use Rattle.std.specs.Prelude.{ℕ, zero, suc, List, [], ◌∷◌, ◌++◌}
use Rattle.venue_model.specs.History.{Message}
use Rattle.ring_words.specs.Raw.{raw_word, raw_count}

-- the first n words of the message
abbrev pub first_words : Message → ℕ → List ℕ
first_words e zero = []
first_words e (suc n) = first_words e n ++ raw_word e n ∷ []

-- all its words
abbrev pub message_words : Message → List ℕ
message_words e = first_words e (raw_count e)
