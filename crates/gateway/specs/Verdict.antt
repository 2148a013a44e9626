-- How a session judges a frame: the first test that fails decides (docs/PROFILE.md, "Session").
use Rattle.std.specs.Prelude.{ℕ, ◌+◌, Bool, false, not, ◌&&◌, ◌||◌, nat_le, ◌==◌, if◌then◌else◌, List, [], ◌∷◌, length, codes, Option, Some, None}
use Rattle.std.specs.Str.{bytes_eq}
use Rattle.std.specs.Fmt.{decimal}
use Rattle.fix_frame.specs.Grammar.{Field}
use Rattle.fix_frame.specs.declared.FrameFault.{FrameFault}
use Rattle.fix_frame.specs.declared.FrameFault.TheVariants as fault
use Rattle.fix_orders.specs.Header.{Header, header_of}
use Rattle.gateway.specs.declared.refusal.Refusal.{Refusal}
use Rattle.gateway.specs.declared.refusal.Refusal.TheVariants.{Frame, BadHeader, WrongParty, WrongNumber, NoLogon, BadLogon, BadTest, BadType, Exhausted}

-- what a session does with a frame
pub data Verdict : Type 0 where
  -- answers the Logon
  Welcome : Verdict
  -- answers a TestRequest with its TestReqID
  Beat : List ℕ → Verdict
  -- holds the message until it is published
  Hold : Verdict
  -- takes note of it
  Pass : Verdict
  -- answers the Logout, and ends
  Leave : Verdict
  -- sends a Logout with a text, and ends
  Refuse : Refusal → Verdict

-- the client of a gateway: C1 to C8
abbrev pub client_name : ℕ → List ℕ
client_name gateway = 67 ∷ decimal gateway

abbrev pub venue_name : List ℕ
venue_name = codes "VENUE"

-- the message comes from the gateway's client, to the venue
abbrev pub is_party : ℕ → Header → Bool
is_party gateway h = bytes_eq h.sender (client_name gateway) && bytes_eq h.target venue_name

abbrev pub is_type : Header → List ℕ → Bool
is_type h type = bytes_eq h.msg_type type

-- the field is this one
abbrev pub is_this_field : ℕ → List ℕ → Field → Bool
is_this_field tag value f = f.tag == tag && bytes_eq f.value value

-- EncryptMethod none, HeartBtInt none, ResetSeqNumFlag: the one body of Logon
abbrev pub is_logon_body : List Field → Bool
is_logon_body (a ∷ b ∷ c ∷ []) = is_this_field 98 (codes "0") a && is_this_field 108 (codes "0") b && is_this_field 141 (codes "Y") c
is_logon_body _ = false

-- TestRequest has one TestReqID of 1 to 32 bytes
abbrev pub test_verdict : List Field → Verdict
test_verdict (f ∷ []) = if f.tag == 112 && nat_le (length f.value) 32 then Beat f.value else Refuse BadTest
test_verdict _ = Refuse BadTest

-- an order message: D, F or G
abbrev pub is_order : Header → Bool
is_order h = is_type h (codes "D") || is_type h (codes "F") || is_type h (codes "G")

-- a message behind the Logon that is no Logon, by its type
abbrev pub typed_verdict : Header → Verdict
typed_verdict h =
    if is_type h (codes "1") then test_verdict h.rest
    else (if is_type h (codes "0") || is_type h (codes "3") then Pass
    else (if is_type h (codes "5") then Leave
    else (if is_order h then Hold
    else Refuse BadType)))

-- a message behind the Logon
abbrev pub later_verdict : Header → Verdict
later_verdict h =
    if is_type h (codes "A") then Refuse BadLogon else typed_verdict h

-- the first message
abbrev pub first_verdict : Header → Verdict
first_verdict h =
    if not (is_type h (codes "A")) then Refuse NoLogon
    else (if is_logon_body h.rest then Welcome else Refuse BadLogon)

-- a message with a right header, when so many messages were accepted before it
abbrev pub header_verdict : ℕ → ℕ → Header → Verdict
header_verdict gateway accepted h =
    if not (is_party gateway h) then Refuse WrongParty
    else (if not (h.number == accepted + 1) then Refuse WrongNumber
    else (if accepted == 0 then first_verdict h else later_verdict h))

abbrev pub verdict_by : ℕ → ℕ → Option Header → Verdict
verdict_by gateway accepted None = Refuse BadHeader
verdict_by gateway accepted (Some h) = header_verdict gateway accepted h

-- A frame, by its body fields. That a session is logged on is that it accepted a message before, since the first
-- one that it accepts is the Logon.
unfoldable pub verdict : ℕ → ℕ → List Field → Verdict
verdict gateway accepted fields = verdict_by gateway accepted (header_of fields)

-- Text (58) of the Logout
abbrev pub fault_text : FrameFault → List ℕ
fault_text fault.BadBegin = codes "bad begin"
fault_text fault.BadLength = codes "bad length"
fault_text fault.BadChecksum = codes "bad checksum"
fault_text fault.TooLong = codes "too long"
fault_text fault.BadField = codes "bad field"

abbrev pub refusal_text : Refusal → List ℕ
refusal_text (Frame f) = fault_text f
refusal_text BadHeader = codes "bad header"
refusal_text WrongParty = codes "wrong party"
refusal_text WrongNumber = codes "wrong number"
refusal_text NoLogon = codes "no logon"
refusal_text BadLogon = codes "bad logon"
refusal_text BadTest = codes "bad test"
refusal_text BadType = codes "bad type"
refusal_text Exhausted = codes "exhausted"
