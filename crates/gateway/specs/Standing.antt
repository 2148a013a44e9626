-- What a session writes: its answers and the outputs handed to it, in one order, each numbered; and where a session
-- stands after some input (docs/PROFILE.md, "Session").
use Rattle.std.specs.Prelude.{◌≡◌, ◌≢◌, ◌⊎◌, ℕ, ◌+◌, Bool, true, false, ◌&&◌, List, [], ◌∷◌, ◌++◌, length, codes, Option, Some, None, is_some}
use Rattle.std.specs.List.{flat_map, list_any}
use Rattle.fix_frame.specs.Grammar.{Field, frame_text}
use Rattle.fix_orders.specs.Text.{Said, field, number}
use Rattle.gateway.specs.declared.ending.Reason.{Reason}
use Rattle.gateway.specs.declared.ending.Reason.TheVariants.{Exhausted}
use Rattle.gateway.specs.Verdict.{Hold, client_name, venue_name}
use Rattle.gateway.specs.Answers.{Judgement, Reply, Logon, Heartbeat, Logout, Answers, judged, no_time, last_time, replies_of, held_of}

-- the body of Logon
abbrev pub logon_fields : List Field
logon_fields = field 98 (codes "0") ∷ field 108 (codes "0") ∷ field 141 (codes "Y") ∷ []

-- Text (58), where there is one
abbrev pub text_fields : List ℕ → List Field
text_fields [] = []
text_fields (b ∷ bytes) = field 58 (b ∷ bytes) ∷ []

-- what a reply says
abbrev pub said_by : Reply → Said
said_by (Logon time) = record { kind = codes "A"; time = time; body = logon_fields }
said_by (Heartbeat time echo) = record { kind = codes "0"; time = time; body = field 112 echo ∷ [] }
said_by (Logout time text) = record { kind = codes "5"; time = time; body = text_fields text }

-- the body fields of a message to the client: its header, and what it says
abbrev pub message_fields : ℕ → ℕ → Said → List Field
message_fields gateway n said =
    field 35 said.kind ∷ field 49 venue_name ∷ field 56 (client_name gateway) ∷ number 34 n ∷ field 52 said.time ∷ said.body

-- a message to the client, with MsgSeqNum (34)
unfoldable pub message_text : ℕ → ℕ → Said → List ℕ
message_text gateway n said = frame_text (message_fields gateway n said)

-- what goes out: a reply of the session, or an output of the venue
pub data Item : Type 0 where
  Answer : Reply → Item
  Output : Said → Item

abbrev pub said_of : Item → Said
said_of (Answer reply) = said_by reply
said_of (Output said) = said

abbrev pub replies_in : Item → List Reply
replies_in (Answer reply) = reply ∷ []
replies_in (Output said) = []

abbrev pub outputs_in : Item → List Said
outputs_in (Answer reply) = []
outputs_in (Output said) = said ∷ []

-- the bytes of items, the first of which has this MsgSeqNum
abbrev pub numbered : ℕ → ℕ → List Item → List ℕ
numbered gateway n [] = []
numbered gateway n (item ∷ items) = message_text gateway n (said_of item) ++ numbered gateway (n + 1) items

abbrev pub is_logon : Item → Bool
is_logon (Answer (Logon time)) = true
is_logon (Answer (Heartbeat time echo)) = false
is_logon (Answer (Logout time text)) = false
is_logon (Output said) = false

abbrev pub is_logout : Item → Bool
is_logout (Answer (Logon time)) = false
is_logout (Answer (Heartbeat time echo)) = false
is_logout (Answer (Logout time text)) = true
is_logout (Output said) = false

abbrev pub is_last : List Item → Bool
is_last [] = true
is_last (item ∷ items) = false

-- no output stands before the Logon's answer, and nothing behind a Logout; `on` says that a Logon was answered before
abbrev pub orderly : Bool → List Item → Bool
orderly on [] = true
orderly on (Answer (Logon time) ∷ items) = orderly true items
orderly on (Answer (Heartbeat time echo) ∷ items) = orderly on items
orderly on (Answer (Logout time text) ∷ items) = is_last items
orderly on (Output said ∷ items) = on && orderly on items

-- What is written is the frames of one merge of replies and outputs, numbered from 1.
pub record Session (gateway : ℕ) (replies : List Reply) (outs : List Said) (written : List ℕ) (items : List Item) : Type 0 where
  pub answered : flat_map replies_in items ≡ replies
  pub handed : flat_map outputs_in items ≡ outs
  pub frames : written ≡ numbered gateway 1 items
  pub order : orderly false items ≡ true

-- Where a session stands: its gateway; the bytes of the message under way; the message held; how many messages it
-- accepted, and SendingTime of the last right header; the bytes to write; the next MsgSeqNum; whether it is logged
-- on; and why it is closing, if it is.
pub record Standing : Type 0 where
  pub gateway : ℕ
  pub under_way : List ℕ
  pub held : Option (List ℕ)
  pub accepted : ℕ
  pub time : List ℕ
  pub outgoing : List ℕ
  pub number : ℕ
  pub logged_on : Bool
  pub closing : Option Reason

-- who speaks: its gateway, the next MsgSeqNum, whether it is logged on, and whether it closes
pub record Speaker : Type 0 where
  pub gateway : ℕ
  pub number : ℕ
  pub logged_on : Bool
  pub closing : Bool

abbrev pub speaker : ℕ → ℕ → Bool → Bool → Speaker
speaker gateway number logged_on closing = record { gateway = gateway; number = number; logged_on = logged_on; closing = closing }

-- What a session knows of what it said: these bytes are the session of some items, the next MsgSeqNum counts them, it
-- is logged on where a Logon stands among them, and closing where a Logout does.
pub record Spoken (by : Speaker) (bytes : List ℕ) (replies : List Reply) (outs : List Said) : Type 0 where
  pub items : List Item
  pub says : Session by.gateway replies outs bytes items
  pub next : by.number ≡ 1 + length items
  pub logon : by.logged_on ≡ list_any is_logon items
  pub logout : by.closing ≡ list_any is_logout items

-- the last judged frame is the message, and all those to hold before it are published
pub record Waits (message : List ℕ) (messages : List (List ℕ)) (judgements : List Judgement) : Type 0 where
  pub before : List Judgement
  pub last : Judgement
  pub judgements_are : judgements ≡ before ++ last ∷ []
  pub hold : last.verdict ≡ Hold
  pub message_is : last.message ≡ message
  pub published : messages ≡ flat_map held_of before

-- The messages published and the one held are those to hold. A session that closes holds none, since it hears nothing while it does; but where it closes
-- since no sequence was left, the last of them is lost.
abbrev pub Held : Option (List ℕ) → Option Reason → List (List ℕ) → List Judgement → Type 0
Held (Some message) None messages judgements = Waits message messages judgements
Held (Some message) (Some reason) messages judgements = ⊥
Held None None messages judgements = messages ≡ flat_map held_of judgements
Held None (Some reason) messages judgements =
    ((reason ≢ Exhausted) × (messages ≡ flat_map held_of judgements))
    ⊎ ((reason ≡ Exhausted) × (message : List ℕ) × Waits message messages judgements)

-- A session stands where this input leaves it, with these messages published, these outputs handed to it while it was
-- logged on, and these bytes written.
pub record At (s : Standing) (input : List ℕ) (messages : List (List ℕ)) (outs : List Said) (written : List ℕ) : Type 0 where
  pub frames : List (List Field)
  pub lasts : List Judgement
  pub answers : Answers s.gateway input s.under_way s.closing frames lasts
  pub spoken : Spoken (speaker s.gateway s.number s.logged_on (is_some s.closing)) (written ++ s.outgoing) (flat_map replies_of (judged s.gateway 0 no_time frames ++ lasts)) outs
  pub held : Held s.held s.closing messages (judged s.gateway 0 no_time frames)
  pub accepted : s.accepted ≡ length frames
  pub time : s.time ≡ last_time no_time frames
