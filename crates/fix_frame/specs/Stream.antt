-- A stream of frames: what it begins with, and where and with which fault it goes wrong
-- (docs/PROFILE.md, "Frames").
use Rattle.std.specs.Prelude.{◌≡◌, ◌≢◌, ℕ, ◌<◌, ◌≤◌, Bool, ◌&&◌, List, [], ◌∷◌, ◌++◌, length, take, drop, sum, ◌%◌, codes, if◌then◌else◌, nat_le, slice_index, ◌-◌}
use Rattle.std.specs.List.{AllByRecursion, flat_map}
use Rattle.fix_frame.specs.Ascii.{soh, is_digit}
use Rattle.fix_frame.specs.Grammar.{Field, IsField, print_fields, BeginsWithType, IsBody, head, three_digits, frame_text, most_in}
use Rattle.fix_frame.specs.declared.fault.FrameFault.{FrameFault}
use Rattle.fix_frame.specs.declared.fault.FrameFault.TheVariants.{BadBegin, BadLength, BadChecksum, TooLong, BadField}

-- the bytes are a frame
abbrev pub IsWhole : List ℕ → Type 0
IsWhole bytes = (fields : List Field) × IsBody most_in fields × (bytes ≡ frame_text fields)

-- no front of the bytes is a frame
abbrev pub BeginsNoFrame : List ℕ → Type 0
BeginsNoFrame bytes = (fields : List Field) (more : List ℕ) → IsBody most_in fields → bytes ≢ frame_text fields ++ more

-- the stream is these frames, and then what begins with none
pub record Cut (stream : List ℕ) (frames : List (List Field)) (rest : List ℕ) : Type 0 where
  pub whole : stream ≡ flat_map frame_text frames ++ rest
  pub each : AllByRecursion (IsBody most_in) frames
  pub partial : BeginsNoFrame rest

-- a BodyLength of an incoming frame
abbrev pub IsLength : ℕ → Type 0
IsLength n = (5 ≤ n) × (n ≤ most_in)

-- some bytes can follow that make it a head
abbrev pub BeginsHead : List ℕ → Type 0
BeginsHead bytes = (n : ℕ) × (more : List ℕ) × IsLength n × (bytes ++ more ≡ head n)

-- a head stands at the front
abbrev pub HasHead : List ℕ → Type 0
HasHead bytes = (n : ℕ) × (more : List ℕ) × IsLength n × (bytes ≡ head n ++ more)

-- the last byte is a digit
abbrev pub ends_in_digit : List ℕ → Bool
ends_in_digit bytes = is_digit (slice_index bytes (length bytes - 1))

-- Which fault the first wrong byte of a head is. The first ten bytes are BeginString; a length begins behind the
-- twelfth, and its third digit is the fifteenth byte. With fewer digits a length is never too long.
abbrev pub head_fault : List ℕ → FrameFault
head_fault bytes =
    if nat_le (length bytes) 10 then BadBegin
    else (if nat_le 15 (length bytes) && ends_in_digit bytes then TooLong else BadLength)

-- head, body and trailer are all there: the body has the length that the head says, the trailer seven bytes
pub record IsDue (bytes : List ℕ) (n : ℕ) (body tail : List ℕ) : Type 0 where
  pub length_is : IsLength n
  pub bytes_are : bytes ≡ head n ++ (body ++ tail)
  pub body_long : length body ≡ n
  pub tail_long : length tail ≡ 7

-- the body ends a field, and CheckSum follows
abbrev pub IsBodyClosed : List ℕ → List ℕ → Type 0
IsBodyClosed body tail = ((before : List ℕ) × (body ≡ before ++ soh ∷ [])) × (take 3 tail ≡ codes "10=")

-- the trailer ends in the three digits of the sum of what stands before it, and SOH
abbrev pub IsSummed : List ℕ → List ℕ → Type 0
IsSummed front tail = drop 3 tail ≡ three_digits (sum front % 256) ++ soh ∷ []

-- the body is a run of fields, the first of which is MsgType
abbrev pub IsTyped : List ℕ → Type 0
IsTyped body = (fields : List Field) × AllByRecursion IsField fields × BeginsWithType fields ×
    (body ≡ print_fields fields)

-- which fault a body and its trailer have, behind the head of length n: the first that fails
abbrev pub TailFault : ℕ → List ℕ → List ℕ → FrameFault → Type 0
TailFault n body tail BadLength = IsBodyClosed body tail → ⊥
TailFault n body tail BadChecksum = IsBodyClosed body tail × (IsSummed (head n ++ body) tail → ⊥)
TailFault n body tail BadField = IsBodyClosed body tail × IsSummed (head n ++ body) tail × (IsTyped body → ⊥)
TailFault n body tail BadBegin = ⊥
TailFault n body tail TooLong = ⊥

-- these bytes go wrong, with this fault: they neither begin a head nor begin with one; or all of a message is
-- there, and it is no frame
pub data IsWrong : List ℕ → FrameFault → Type 0 where
  in_head : {bytes : List ℕ} {fault : FrameFault} → (BeginsHead bytes → ⊥) → (HasHead bytes → ⊥) →
      fault ≡ head_fault bytes → IsWrong bytes fault
  when_due : {bytes : List ℕ} {fault : FrameFault} (n : ℕ) (body tail : List ℕ) → IsDue bytes n body tail →
      TailFault n body tail fault → IsWrong bytes fault

-- The first fault of a rest that begins with no frame, and how many bytes lead to it, the wrong one included.
pub record Faults (stream : List ℕ) (at : ℕ) (fault : FrameFault) : Type 0 where
  pub within : at ≤ length stream
  pub here : IsWrong (take at stream) fault
  pub first : (k : ℕ) (other : FrameFault) → k < at → IsWrong (take k stream) other → ⊥
