-- A message as words: one for its gateway and length, then eight bytes a word, big-endian, the last one filled up with zeros.
use Rattle.std.specs.Prelude.{◌≡◌, ℕ, zero, suc, ◌+◌, ◌*◌, ◌/◌, ◌<◌, List, [], ◌∷◌, length, slice_index_or}
use Rattle.std.specs.Int.{from_be_bytes}
use mir.Syntax.{w64}
use Rattle.venue_model.specs.History.{Message}

-- the eight bytes from place 8 i on, with 0 for each that isn't there
abbrev pub eight : List ℕ → ℕ → List ℕ
eight bs i = slice_index_or bs (8 * i) 0 ∷ slice_index_or bs (8 * i + 1) 0 ∷ slice_index_or bs (8 * i + 2) 0 ∷ slice_index_or bs (8 * i + 3) 0
    ∷ slice_index_or bs (8 * i + 4) 0 ∷ slice_index_or bs (8 * i + 5) 0 ∷ slice_index_or bs (8 * i + 6) 0 ∷ slice_index_or bs (8 * i + 7) 0 ∷ []

abbrev pub raw_word : Message → ℕ → ℕ
raw_word e zero = e.gateway * 65536 + length e.bytes
raw_word e (suc i) = from_be_bytes w64 (eight e.bytes i)

-- how many words the message needs
abbrev pub raw_count : Message → ℕ
raw_count e = suc ((length e.bytes + 7) / 8)

-- these words are the message
pub record SpellsMessage (words : List ℕ) (e : Message) : Type 0 where
  pub long : length words ≡ raw_count e
  pub each : (i : ℕ) → i < raw_count e → slice_index_or words i 0 ≡ raw_word e i
