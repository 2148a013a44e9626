-- What a session answers to its input: the frames that the input begins with, judged in order, up to the one or
-- the fault that ends the session (docs/PROFILE.md, "Session").
use Rattle.std.specs.Prelude.{◌≡◌, ◌⊎◌, ℕ, ◌+◌, Bool, true, false, List, [], ◌∷◌, ◌++◌, length, codes, Option, Some, None}
use Rattle.std.specs.List.{flat_map, list_all, AllByRecursion}
use Rattle.fix_frame.specs.Grammar.{Field, IsBody, frame_text, most_in}
use Rattle.fix_frame.specs.Stream.{BeginsNoFrame, Faults}
use Rattle.fix_frame.specs.declared.FrameFault.{FrameFault}
use Rattle.fix_orders.specs.Header.{Header, header_of}
use Rattle.gateway.specs.declared.refusal.Refusal.TheVariants as refusal
use Rattle.gateway.specs.declared.ending.Reason.{Reason}
use Rattle.gateway.specs.declared.ending.Reason.TheVariants.{Closed, WireFailed, LoggedOut, Refused, Stalled, Exhausted}
use Rattle.gateway.specs.Verdict.{Verdict, Welcome, Beat, Hold, Pass, Leave, Refuse, verdict, refusal_text}

-- a frame judged: what is done with it, SendingTime (52) of an answer to it, and its bytes
pub record Judgement : Type 0 where
  pub verdict : Verdict
  pub time : List ℕ
  pub message : List ℕ

-- SendingTime of the last message with a right header
abbrev pub time_by : List ℕ → Option Header → List ℕ
time_by last None = last
time_by last (Some h) = h.time

unfoldable pub time_after : List ℕ → List Field → List ℕ
time_after last fields = time_by last (header_of fields)

-- before the first one
abbrev pub no_time : List ℕ
no_time = codes "00000000-00:00:00"

-- a frame, when so many were accepted before it and the last right header had this time
abbrev pub judgement : ℕ → ℕ → List ℕ → List Field → Judgement
judgement gateway accepted last frame = record {
  verdict = verdict gateway accepted frame;
  time = time_after last frame;
  message = frame_text frame;
}

-- frames one after another, each accepted
abbrev pub judged : ℕ → ℕ → List ℕ → List (List Field) → List Judgement
judged gateway accepted last [] = []
judged gateway accepted last (frame ∷ frames) =
    judgement gateway accepted last frame
    ∷ judged gateway (accepted + 1) (time_after last frame) frames

-- the time of the last right header after some frames
abbrev pub last_time : List ℕ → List (List Field) → List ℕ
last_time last [] = last
last_time last (frame ∷ frames) = last_time (time_after last frame) frames

-- the session goes on after it
abbrev pub goes_on : Verdict → Bool
goes_on Welcome = true
goes_on (Beat echo) = true
goes_on Hold = true
goes_on Pass = true
goes_on Leave = false
goes_on (Refuse r) = false

-- what a session says by itself
pub data Reply : Type 0 where
  -- Logon (35=A)
  Logon : (time : List ℕ) → Reply
  -- Heartbeat (35=0), with TestReqID
  Heartbeat : (time echo : List ℕ) → Reply
  -- Logout (35=5), with Text where it is a refusal
  Logout : (time text : List ℕ) → Reply

abbrev pub replies_by : List ℕ → Verdict → List Reply
replies_by time Welcome = Logon time ∷ []
replies_by time (Beat echo) = Heartbeat time echo ∷ []
replies_by time Hold = []
replies_by time Pass = []
replies_by time Leave = Logout time [] ∷ []
replies_by time (Refuse r) = Logout time (refusal_text r) ∷ []

-- the session's answer to a judged frame
abbrev pub replies_of : Judgement → List Reply
replies_of j = replies_by j.time j.verdict

abbrev pub held_by : List ℕ → Verdict → List (List ℕ)
held_by message Welcome = []
held_by message (Beat echo) = []
held_by message Hold = message ∷ []
held_by message Pass = []
held_by message Leave = []
held_by message (Refuse r) = []

-- the message that a judged frame asks to publish
abbrev pub held_of : Judgement → List (List ℕ)
held_of j = held_by j.message j.verdict

-- the fault of what follows the frames, answered with the time of the last right header
abbrev pub fault_judgement : List ℕ → FrameFault → Judgement
fault_judgement last fault = record { verdict = Refuse (refusal.Frame fault); time = last; message = [] }

-- no sequence is left for a held message
abbrev pub exhausted_judgement : Judgement → Judgement
exhausted_judgement held = record { verdict = Refuse refusal.Exhausted; time = held.time; message = [] }

-- the rest begins with a frame that is judged so
abbrev pub EndsAtFrame : ℕ → ℕ → List ℕ → List ℕ → Judgement → Type 0
EndsAtFrame gateway accepted last rest j =
    (frame : List Field) × (more : List ℕ) × IsBody most_in frame × (rest ≡ frame_text frame ++ more)
    × (j ≡ judgement gateway accepted last frame)

-- the rest has a fault, so it begins with no frame
abbrev pub EndsAtFault : List ℕ → List ℕ → Judgement → Type 0
EndsAtFault last rest j = (fault : FrameFault) × (at : ℕ) × Faults rest at fault × (j ≡ fault_judgement last fault)

-- How the session ends by itself, if it does, behind these accepted frames, and what its last judgement is. Where it goes on, the rest is the message
-- under way.
abbrev pub Ending : ℕ → List (List Field) → List ℕ → List ℕ → Option Reason → List Judgement → Type 0
Ending gateway frames rest under_way None lasts = (lasts ≡ []) × (under_way ≡ rest) × BeginsNoFrame rest
Ending gateway frames rest under_way (Some LoggedOut) lasts =
    (j : Judgement) × EndsAtFrame gateway (length frames) (last_time no_time frames) rest j × (j.verdict ≡ Leave) × (lasts ≡ j ∷ [])
Ending gateway frames rest under_way (Some Refused) lasts =
    (j : Judgement) × (EndsAtFrame gateway (length frames) (last_time no_time frames) rest j ⊎ EndsAtFault (last_time no_time frames) rest j)
    × (goes_on j.verdict ≡ false) × (j.verdict ≡ Leave → ⊥) × (lasts ≡ j ∷ [])
Ending gateway frames rest under_way (Some Exhausted) lasts =
    (earlier : List Judgement) × (j : Judgement) × (judged gateway 0 no_time frames ≡ earlier ++ j ∷ []) × (j.verdict ≡ Hold)
    × (lasts ≡ exhausted_judgement j ∷ [])
Ending gateway frames rest under_way (Some Closed) lasts = ⊥
Ending gateway frames rest under_way (Some WireFailed) lasts = ⊥
Ending gateway frames rest under_way (Some Stalled) lasts = ⊥

-- The input is these frames, each accepted, and then a rest; the session's last judgement is the one that ends it.
-- Nothing follows that.
pub record Answers (gateway : ℕ) (input under_way : List ℕ) (closing : Option Reason) (frames : List (List Field)) (lasts : List Judgement) : Type 0 where
  pub rest : List ℕ
  pub cut : input ≡ flat_map frame_text frames ++ rest
  pub bodies : AllByRecursion (IsBody most_in) frames
  pub accepted : list_all (λ j. goes_on j.verdict) (judged gateway 0 no_time frames) ≡ true
  pub ending : Ending gateway frames rest under_way closing lasts
