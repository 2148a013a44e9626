-- The header of a message (FIX 4.4, volume 2, "Standard Header"; docs/PROFILE.md, "Header"): behind
-- BeginString and BodyLength its fields stand in one order.
use Rattle.std.specs.Prelude.{◌≡◌, ◌≢◌, ◌↔◌, ◌≤◌, length, ⊤, ℕ, Bool, false, ◌&&◌, nat_le, ◌==◌, if◌then◌else◌, List, [], ◌∷◌, Option, Some, None}
use Rattle.fix_frame.specs.Grammar.{Field}
use Rattle.fix_frame.specs.Runs.{IsRun}
use Rattle.fix_frame.specs.Bodies.{bytes_left, fields_in}
use Rattle.fix_frame.specs.Borrowed.{fields_left}
use Rattle.fix_frame.specs.declared.body.Body.{Body}
use Rattle.fix_orders.specs.declared.header.HeaderFields.{HeaderFields}
use Rattle.fix_orders.specs.declared.header.Header.{Header as HeaderRead}
use Rattle.fix_orders.specs.Formats.{is_number, value_of, is_time}

-- MsgType (35), SenderCompID (49), TargetCompID (56), MsgSeqNum (34), SendingTime (52), and the fields behind them
pub record Header : Type 0 where
  pub msg_type : List ℕ
  pub sender : List ℕ
  pub target : List ℕ
  pub number : ℕ
  pub time : List ℕ
  pub rest : List Field

-- MsgSeqNum is a number from 1 to 999,999,999
abbrev pub is_seq_num : List ℕ → Bool
is_seq_num value = is_number value && nat_le 1 (value_of value) && nat_le (value_of value) 999999999

-- five fields are those of a header
abbrev pub is_header : Field → Field → Field → Field → Field → Bool
is_header a b c d e =
    a.tag == 35 && b.tag == 49 && c.tag == 56 && d.tag == 34 && e.tag == 52 && is_seq_num d.value && is_time e.value

-- the header that a body begins with, where it is right
abbrev pub header_of : List Field → Option Header
header_of (a ∷ b ∷ c ∷ d ∷ e ∷ rest) =
    if is_header a b c d e
    then Some (record {
      msg_type = a.value;
      sender = b.value;
      target = c.value;
      number = value_of d.value;
      time = e.value;
      rest = rest;
    })
    else None
header_of _ = None

-- a header that was read, without where it lies in memory
abbrev pub as_header : HeaderRead → Header
as_header h = record {
  msg_type = h.msg_type.now;
  sender = h.sender.now;
  target = h.target.now;
  number = h.number;
  time = h.time.now;
  rest = fields_left h.rest;
}

-- no field of this tag stands first
abbrev pub LacksFirst : ℕ → List Field → Type 0
LacksFirst tag [] = ⊤
LacksFirst tag (f ∷ fields) = f.tag ≢ tag

-- no SendingTime that is a time stands first
abbrev pub LacksTime : List Field → Type 0
LacksTime [] = ⊤
LacksTime (f ∷ fields) = (f.tag == 52 && is_time f.value) ≡ false

-- five fields that were read, and those behind them
abbrev pub header_by : HeaderFields → List Field → Header
header_by h rest = record {
  msg_type = h.msg_type.now;
  sender = h.sender.now;
  target = h.target.now;
  number = h.number;
  time = h.time.now;
  rest = rest;
}

-- no right header stands at the front of a body
abbrev pub BeginsNoHeader : Body → Type 0
BeginsNoHeader body = IsRun (bytes_left body) → header_of (fields_in body) ≡ None

-- a header stood there, and what is left stands behind it
pub record TakesHeader (old new : Body) (h : HeaderFields) : Type 0 where
  pub header : header_of (fields_in old) ≡ Some (header_by h (fields_in new))
  pub run : IsRun (bytes_left old) ↔ IsRun (bytes_left new)
  pub fewer : length (bytes_left new) ≤ length (bytes_left old)
