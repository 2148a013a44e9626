-- Private: pieces and numbers read off the front of some bytes.
use Rattle.std.specs.Prelude.{◌≡◌, ℕ, ◌<◌, ◌^◌, true, List, ◌∷◌, ◌++◌}
use Rattle.std.specs.Str.Parse.{digits_value}
use Rattle.fix_frame.specs.Ascii.{soh}
use Rattle.edge_frames.specs.Fields.{ended, is_digits, is_spelled, tag_of, value_text}

-- the piece stands at the front, the first that SOH ends, and the rest behind it
pub record SplitsOff (bytes piece rest : List ℕ) : Type 0 where
  pub spells : bytes ≡ piece ++ soh ∷ rest
  pub first : ended bytes ≡ piece ∷ ended rest

-- the text is this number
pub record ReadsNumber (most : ℕ) (text : List ℕ) (n : ℕ) : Type 0 where
  pub is : is_digits most text ≡ true
  pub value : n ≡ digits_value 10 text
  pub small : n < 10 ^ 9

-- the piece is a field of this tag, or of none, and this value
pub record ReadsField (piece : List ℕ) (tag : ℕ) (value : List ℕ) : Type 0 where
  pub is : is_spelled piece ≡ true
  pub tag_is : tag ≡ tag_of piece
  pub value_is : value ≡ value_text piece
