-- The fields of a message as they are spelled, whatever is wrong with them (FIX 4.4, volume 1, "Message Format").
use Rattle.std.specs.Prelude.{ℕ, Bool, true, ◌&&◌, ◌||◌, not, List, [], ◌∷◌, length, nat_le, nat_lt, ◌==◌}
use Rattle.std.specs.Prelude.{if◌then◌else◌, slice_index}
use Rattle.std.specs.List.{list_all, before_first, after_first}
use Rattle.std.specs.Str.Parse.{digits_value}
use Rattle.fix_frame.specs.Ascii.{soh, equals_sign, is_digit}
use Rattle.fix_frame.specs.Grammar.{Field}

-- a byte onto the first of some pieces, if there is one
abbrev pub onto_ended : ℕ → List (List ℕ) → List (List ℕ)
onto_ended b [] = []
onto_ended b (p ∷ ps) = (b ∷ p) ∷ ps

-- the pieces that SOH ends, without SOH; what no SOH ends is in none of them
unfoldable pub ended : List ℕ → List (List ℕ)
ended [] = []
ended (b ∷ bytes) = if b == soh then [] ∷ ended bytes else onto_ended b (ended bytes)

-- what stands before the equals sign of a piece, and what behind it
abbrev pub tag_text : List ℕ → List ℕ
tag_text piece = before_first (λ b. b == equals_sign) piece

abbrev pub value_text : List ℕ → List ℕ
value_text piece = after_first (λ b. b == equals_sign) piece

-- one digit or more, and so many at most: a number of FIX, which may have zeros in front ("int")
abbrev pub is_digits : ℕ → List ℕ → Bool
is_digits most text = nat_le 1 (length text) && (nat_le (length text) most && list_all is_digit text)

-- the piece is digits, an equals sign and whatever follows: else its message is garbled
abbrev pub is_spelled : List ℕ → Bool
is_spelled piece =
    nat_lt (length (tag_text piece)) (length piece) && (nat_le 1 (length (tag_text piece)) &&
    list_all is_digit (tag_text piece))

-- the number of a tag, which has five digits at most and no zero in front; 0, where the text is none
abbrev pub tag_value : List ℕ → ℕ
tag_value text = if is_digits 5 text && not (slice_index text 0 == 48) then digits_value 10 text else 0

-- the tag of a field, 1 to 99,999; or 0, where that isn't what its digits spell
abbrev pub tag_of : List ℕ → ℕ
tag_of piece = if is_spelled piece then tag_value (tag_text piece) else 0

-- the field that a piece spells
abbrev pub piece_field : List ℕ → Field
piece_field piece = record { tag = tag_of piece; value = value_text piece }

-- BeginString, BodyLength and CheckSum frame a message, and stand nowhere inside it
abbrev pub is_frame_tag : ℕ → Bool
is_frame_tag tag = tag == 8 || (tag == 9 || tag == 10)

-- the piece is a field that can stand in a body
abbrev pub may_stand : List ℕ → Bool
may_stand piece = is_spelled piece && not (is_frame_tag (tag_of piece))

-- the pieces are fields that can stand so in a body: MsgType is the first of them
abbrev pub are_fields : List (List ℕ) → Bool
are_fields [] = true
are_fields (p ∷ ps) = tag_of p == 35 && list_all may_stand ps
