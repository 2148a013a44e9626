-- The frame of a message (FIX 4.4, volume 1, "Message Format", and volume 2, "Standard Header" and
-- "Standard Trailer"; docs/PROFILE.md, "Frames"). Each form is a tree, a printer from the tree to its
-- bytes, and a fact that says which trees are valid: so there is one spelling of each frame.
use Rattle.std.specs.Prelude.{◌≡◌, ◌≢◌, ℕ, ◌+◌, ◌/◌, ◌%◌, ◌<◌, ◌≤◌, List, [], ◌∷◌, ◌++◌, length, sum, codes, if◌then◌else◌, ◌==◌, map}
use Rattle.std.specs.List.{AllByRecursion, before_first, after_first}
use Rattle.std.specs.Fmt.{decimal}
use Rattle.std.specs.Str.Parse.{digits_value}
use Rattle.fix_frame.specs.Ascii.{soh, equals_sign}

-- a field: its tag and its value
pub record Field : Type 0 where
  pub tag : ℕ
  pub value : List ℕ

-- no byte of these is SOH
abbrev pub LacksSoh : List ℕ → Type 0
LacksSoh bytes = AllByRecursion (λ b. b ≢ soh) bytes

-- a tag of 1 to 5 digits, and a value of one byte or more, none of them SOH
pub record IsField (f : Field) : Type 0 where
  pub tag_from : 1 ≤ f.tag
  pub tag_to : f.tag ≤ 99999
  pub valued : 0 < length f.value
  pub ends : LacksSoh f.value

-- the field in front of what follows it: tag=value and SOH
unfoldable pub field_then : Field → List ℕ → List ℕ
field_then f rest = decimal f.tag ++ equals_sign ∷ (f.value ++ soh ∷ rest)

-- a run of fields, one behind the other
abbrev pub print_fields : List Field → List ℕ
print_fields [] = []
print_fields (f ∷ fs) = field_then f (print_fields fs)

-- MsgType stands first
abbrev pub BeginsWithType : List Field → Type 0
BeginsWithType [] = ⊥
BeginsWithType (f ∷ fs) = f.tag ≡ 35

-- the fields of a body: MsgType first, 5 to so many bytes
pub record IsBody (most : ℕ) (fields : List Field) : Type 0 where
  pub each : AllByRecursion IsField fields
  pub typed : BeginsWithType fields
  pub least : 5 ≤ length (print_fields fields)
  pub at_most : length (print_fields fields) ≤ most

-- BeginString and BodyLength
unfoldable pub head : ℕ → List ℕ
head n = codes "8=FIX.4.4" ++ soh ∷ (codes "9=" ++ (decimal n ++ soh ∷ []))

-- a number below 1,000 in exactly three digits
abbrev pub three_digits : ℕ → List ℕ
three_digits n = (48 + n / 100) ∷ (48 + n / 10 % 10) ∷ (48 + n % 10) ∷ []

-- CheckSum: the sum of all bytes before it, modulo 256
unfoldable pub trailer : List ℕ → List ℕ
trailer front = codes "10=" ++ (three_digits (sum front % 256) ++ soh ∷ [])

-- what ends in the trailer of its own bytes
abbrev pub sealed : List ℕ → List ℕ
sealed front = front ++ trailer front

-- the frame round a body
unfoldable pub frame_of : List ℕ → List ℕ
frame_of body = sealed (head (length body) ++ body)

-- the frame of these body fields
abbrev pub frame_text : List Field → List ℕ
frame_text fields = frame_of (print_fields fields)

-- the text is the frame of these body fields. Incoming frames have at most 297 body bytes, outgoing ones 999
pub record IsFrame (most : ℕ) (text : List ℕ) (fields : List Field) : Type 0 where
  pub body : IsBody most fields
  pub spells : text ≡ frame_text fields

-- how many body bytes an incoming frame has at most, so that it has at most 320 bytes in all
abbrev pub most_in : ℕ
most_in = 297

-- how many body bytes an outgoing frame has at most
abbrev pub most_out : ℕ
most_out = 999

-- a byte onto the first of some pieces
abbrev pub onto_first : ℕ → List (List ℕ) → List (List ℕ)
onto_first b [] = (b ∷ []) ∷ []
onto_first b (p ∷ ps) = (b ∷ p) ∷ ps

-- what the bytes SOH end, without them
unfoldable pub pieces : List ℕ → List (List ℕ)
pieces [] = []
pieces (b ∷ bytes) = if b == soh then [] ∷ pieces bytes else onto_first b (pieces bytes)

-- the field that a piece spells
abbrev pub field_of : List ℕ → Field
field_of piece = record {
  tag = digits_value 10 (before_first (λ b. b == equals_sign) piece);
  value = after_first (λ b. b == equals_sign) piece;
}

-- the fields that a run of fields spells: of `print_fields fields` it gives `fields` back
unfoldable pub fields_of : List ℕ → List Field
fields_of bytes = map field_of (pieces bytes)
