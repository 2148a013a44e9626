-- What the calls of a session do to where it stands.
use Rattle.std.specs.Prelude.{ℕ, ◌+◌, true, false, List, [], ◌++◌, Some, None, ◌≡◌, ◌⊎◌, ◌≤◌, length, take}
use Rattle.fix_orders.specs.Text.{Said}
use Rattle.gateway.specs.declared.ending.Reason.{Reason}
use Rattle.gateway.specs.declared.ending.Reason.TheVariants.{LoggedOut, Refused, Exhausted}
use Rattle.gateway.specs.declared.refusal.Refusal.{Refusal}
use Rattle.gateway.specs.declared.refusal.Refusal.TheVariants as refusal
use Rattle.gateway.specs.Verdict.{Verdict, Welcome, Beat, Hold, Pass, Leave, Refuse, refusal_text, verdict}
use Rattle.gateway.specs.Answers.{Reply, Logon, Heartbeat, Logout, no_time, time_after}
use Rattle.gateway.specs.Standing.{Standing, message_text, said_by}
use Rattle.fix_frame.specs.Grammar.{Field, IsBody, frame_text, most_in}
use Rattle.fix_frame.specs.Stream.{BeginsNoFrame, Faults}
use Rattle.fix_frame.specs.declared.FrameFault.{FrameFault}

-- a new session of a gateway
abbrev pub fresh : ℕ → Standing
fresh gateway = record {
  gateway = gateway;
  under_way = [];
  held = None;
  accepted = 0;
  time = no_time;
  outgoing = [];
  number = 1;
  logged_on = false;
  closing = None;
}

-- one more message stands in the outgoing bytes
abbrev pub saying : Said → Standing → Standing
saying said s = record s { outgoing = s.outgoing ++ message_text s.gateway s.number said; number = s.number + 1 }

abbrev pub replying : Reply → Standing → Standing
replying reply s = saying (said_by reply) s

-- a Logout is said, and the session closes
abbrev pub closing_by : Reason → List ℕ → List ℕ → Standing → Standing
closing_by reason time text s = record (replying (Logout time text) s) { closing = Some reason }

-- the session refuses what it got
abbrev pub refusing : List ℕ → Refusal → Standing → Standing
refusing time r s = closing_by Refused time (refusal_text r) s

-- no sequence is left for the message held
abbrev pub exhausting : Standing → Standing
exhausting s = record (closing_by Exhausted s.time (refusal_text refusal.Exhausted) s) { held = None }

-- a frame is accepted
abbrev pub accepting : List ℕ → Standing → Standing
accepting time s = record s { under_way = []; accepted = s.accepted + 1; time = time }

-- a frame is heard: its time (or the last one), its bytes and its verdict decide
abbrev pub heard : List ℕ → List ℕ → Verdict → Standing → Standing
heard time message Welcome s = record (replying (Logon time) (accepting time s)) { logged_on = true }
heard time message (Beat echo) s = replying (Heartbeat time echo) (accepting time s)
heard time message Hold s = record (accepting time s) { held = Some message }
heard time message Pass s = accepting time s
heard time message Leave s = closing_by LoggedOut time [] (record s { under_way = [] })
heard time message (Refuse r) s = refusing time r (record s { under_way = [] })

-- the bytes fed end no frame
pub record Unheard (old new : Standing) (fed : List ℕ) : Type 0 where
  pub partial : BeginsNoFrame (old.under_way ++ fed)
  pub new_is : new ≡ record old { under_way = old.under_way ++ fed }

-- the bytes fed end a frame, which is judged
pub record HeardFrame (old new : Standing) (fed : List ℕ) : Type 0 where
  pub frame : List Field
  pub body : IsBody most_in frame
  pub whole : old.under_way ++ fed ≡ frame_text frame
  pub new_is : new ≡ heard (time_after old.time frame) (frame_text frame) (verdict old.gateway old.accepted frame) old

-- what is fed goes wrong; what the framer then holds means nothing
pub record HeardFault (old new : Standing) (fed : List ℕ) : Type 0 where
  pub fault : FrameFault
  pub left : List ℕ
  pub at : ℕ
  pub faults : Faults (old.under_way ++ fed) at fault
  pub new_is : new ≡ refusing old.time (refusal.Frame fault) (record old { under_way = left })

-- so many bytes of a piece are fed, one or more
pub record Listens (old new : Standing) (piece : List ℕ) (n : ℕ) : Type 0 where
  pub some : 1 ≤ n
  pub within : n ≤ length piece
  pub hears : (Unheard old new (take n piece) ⊎ HeardFrame old new (take n piece)) ⊎ HeardFault old new (take n piece)
