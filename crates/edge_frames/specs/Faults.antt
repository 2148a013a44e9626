-- What is wrong with a field of a message that is whole otherwise, and what the message is then: to be rejected with
-- that reason (FIX 4.4, SessionRejectReason (373)), or as good as garbled.
use Rattle.std.specs.Prelude.{◌≡◌, ℕ, suc, Bool, true, false, ◌&&◌, not, List, [], ◌∷◌, length, take, nat_le}
use Rattle.std.specs.Prelude.{nat_lt, ◌==◌, if◌then◌else◌, Option, None, Some, is_none}
use Rattle.std.specs.List.{list_all, list_any}
use Rattle.fix_frame.specs.Ascii.{is_digit}
use Rattle.fix_frame.specs.Grammar.{Field}
use Rattle.edge_frames.specs.Fields.{is_frame_tag, tag_of, value_text, is_digits}
use Rattle.edge_frames.specs.declared.reason.RejectReason.{RejectReason}
use Rattle.edge_frames.specs.declared.reason.RejectReason.TheVariants.{InvalidTag, NoValue, OutOfRange, BadFormat}
use Rattle.edge_frames.specs.declared.reason.RejectReason.TheVariants.{TooMany}
use Rattle.edge_frames.specs.declared.verdict.BadField.{BadField}
use Rattle.edge_frames.specs.declared.verdict.Verdict.{Verdict}
use Rattle.edge_frames.specs.declared.verdict.Verdict.TheVariants.{Taken, Refused, Garbled}

-- the tags of FIX 4.4 whose values are data: any bytes, of a length that another field tells
abbrev pub data_tags : List ℕ
data_tags = 89 ∷ 91 ∷ 96 ∷ 213 ∷ 349 ∷ 351 ∷ 353 ∷ 355 ∷ 357 ∷ 359 ∷ 361 ∷ 363 ∷ 365 ∷ 446 ∷ 619 ∷ 622 ∷ []

-- BeginSeqNo, EndSeqNo, MsgSeqNum, NewSeqNo and HeartBtInt
abbrev pub counted_tags : List ℕ
counted_tags = 7 ∷ 16 ∷ 34 ∷ 36 ∷ 108 ∷ []

abbrev pub is_one_of : List ℕ → ℕ → Bool
is_one_of tags tag = list_any (λ t. t == tag) tags

-- a byte that prints: a blank to a tilde
abbrev pub prints : ℕ → Bool
prints b = nat_le 32 b && nat_le b 126

-- why a number of FIX isn't taken, if it isn't
abbrev pub number_fault : List ℕ → Option RejectReason
number_fault value =
    if is_digits 9 value then None
    else (if list_all is_digit value && nat_lt 9 (length value) then Some OutOfRange else Some BadFormat)

-- why a value isn't taken, if it isn't
abbrev pub value_fault : ℕ → List ℕ → Option RejectReason
value_fault tag value =
    if length value == 0 then Some NoValue
    else (if not (list_all prints value) then Some BadFormat
    else (if is_one_of counted_tags tag then number_fault value else None))

-- why a field of this tag and this value isn't taken, if it isn't
abbrev pub field_fault : ℕ → List ℕ → Option RejectReason
field_fault tag value =
    if nat_le 1 tag && not (is_one_of data_tags tag) then value_fault tag value else Some InvalidTag

abbrev pub piece_fault : List ℕ → Option RejectReason
piece_fault piece = field_fault (tag_of piece) (value_text piece)

-- a field of the venue that the edge takes in a body
pub record IsTaken (f : Field) : Type 0 where
  pub inside : is_frame_tag f.tag ≡ false
  pub right : field_fault f.tag f.value ≡ None

abbrev pub fault : ℕ → RejectReason → BadField
fault field reason = record { field = field; reason = reason }

-- this fault, if there is one, and else the other
abbrev pub fault_or : ℕ → Option RejectReason → Option BadField → Option BadField
fault_or i (Some reason) other = Some (fault i reason)
fault_or i None other = other

-- The first of these fields that isn't taken, where the first has this index in its message. A message has so many
-- fields at most: one more is too many.
abbrev pub first_piece_fault : ℕ → ℕ → List (List ℕ) → Option BadField
first_piece_fault i most [] = None
first_piece_fault i most (p ∷ ps) =
    if nat_lt i most then fault_or i (piece_fault p) (first_piece_fault (suc i) most ps) else Some (fault i TooMany)

-- the piece is a field of this tag, and taken
abbrev pub is_good : ℕ → List ℕ → Bool
is_good tag piece = tag_of piece == tag && is_none (piece_fault piece)

-- one of these pieces is
abbrev pub has_tag : ℕ → List (List ℕ) → Bool
has_tag tag pieces = list_any (is_good tag) pieces

-- what a Reject has to name is there: MsgType, MsgSeqNum, SenderCompID and TargetCompID
abbrev pub has_header : List (List ℕ) → Bool
has_header pieces = has_tag 35 pieces && (has_tag 34 pieces && (has_tag 49 pieces && has_tag 56 pieces))

abbrev pub verdict_told : Option BadField → Bool → Verdict
verdict_told None headed = Taken
verdict_told (Some f) true = Refused f
verdict_told (Some f) false = Garbled

-- What a message of these fields is, where it may have so many of them. A Reject names MsgSeqNum and the others, so
-- without them nothing can be refused; a message that is taken is for the session to judge, which asks for them too.
abbrev pub message_verdict : ℕ → List (List ℕ) → Verdict
message_verdict most pieces = verdict_told (first_piece_fault 0 most pieces) (has_header (take most pieces))
