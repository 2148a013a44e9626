-- A message of FIX 4.4 that a member's engine sends (volume 1, "Message Format"; volume 2, "Standard Header" and
-- "Standard Trailer"). Its frame is the venue's own, wider: any tag, zeros in front of BodyLength, and as many bytes as
-- the edge lets it have.
use Rattle.std.specs.Prelude.{◌≡◌, ◌≢◌, ℕ, ◌+◌, ◌≤◌, true, List, [], ◌∷◌, ◌++◌, length}
use Rattle.std.specs.Str.Parse.{digits_value}
use Rattle.fix_frame.specs.Ascii.{soh}
use Rattle.fix_frame.specs.Grammar.{sealed}
use Rattle.fix_frame.specs.Stages.{opening}
use Rattle.fix_frame.specs.Cuts.{EndsInSoh}
use Rattle.edge_frames.specs.Fields.{ended, is_digits, are_fields}
use Rattle.edge_frames.specs.Faults.{message_verdict}
use Rattle.edge_frames.specs.declared.verdict.Verdict.{Verdict}
use Rattle.edge_frames.specs.declared.verdict.Verdict.TheVariants.{Garbled}

-- BeginString, and BodyLength of these digits
abbrev pub head_with : List ℕ → List ℕ
head_with digits = opening ++ (digits ++ soh ∷ [])

-- what they say
abbrev pub length_of : List ℕ → ℕ
length_of digits = digits_value 10 digits

-- a body with its head and its trailer
abbrev pub framed : List ℕ → List ℕ → List ℕ
framed digits body = sealed (head_with digits ++ body)

-- the digits are a BodyLength, of a message that has so many bytes at most
pub record IsBodyLength (longest : ℕ) (digits : List ℕ) : Type 0 where
  pub number : is_digits 9 digits ≡ true
  pub short : length (head_with digits) + length_of digits + 7 ≤ longest

-- the bytes are the body of a message, as long as the digits say: fields, each ended by SOH, MsgType first
pub record IsMessageBody (longest : ℕ) (digits body : List ℕ) : Type 0 where
  pub long : IsBodyLength longest digits
  pub exact : length_of digits ≡ length body
  pub ends : EndsInSoh body
  pub fields : are_fields (ended body) ≡ true

-- The text is a message that comes out: right as a frame, and taken, or refused for a field. What is garbled doesn't.
pub record ComesOut (longest most : ℕ) (text : List ℕ) (verdict : Verdict) : Type 0 where
  pub digits : List ℕ
  pub body : List ℕ
  pub right : IsMessageBody longest digits body
  pub spells : text ≡ framed digits body
  pub judged : verdict ≡ message_verdict most (ended body)
  pub whole : verdict ≢ Garbled
