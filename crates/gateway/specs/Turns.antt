-- What a turn of a gateway does: the bytes and messages that move in it, and where they leave the session.
use Rattle.std.specs.Prelude.{◌≡◌, ◌≢◌, ◌⊎◌, ℕ, ◌+◌, ◌^◌, ◌<◌, ◌≤◌, Bool, true, false, if◌then◌else◌, List, [], ◌∷◌, ◌++◌, length, Option, Some, None}
use Rattle.fix_orders.specs.Text.{Said}
use Rattle.gateway.specs.declared.ending.Reason.{Reason}
use Rattle.gateway.specs.declared.ending.Reason.TheVariants.{Closed, WireFailed, LoggedOut, Refused, Stalled, Exhausted}
use Rattle.gateway.specs.declared.ending.Turned.{Turned}
use Rattle.gateway.specs.declared.ending.Turned.TheVariants.{Worked, Quiet, Ended}
use Rattle.venue_model.specs.Counts.{Rose}
use Rattle.wires.specs.Wires.{Told, grown}
use Rattle.ring_words.specs.declared.view.Load.{Load}
use Rattle.ring_words.specs.Places.{marshalled}
use Rattle.ring_words.specs.Seats.{load_of}
use Rattle.gateway.specs.Ledgers.{Ledger, IsRefused, IsExhausted}
use Rattle.gateway.specs.Standing.{Standing, At}

-- A gateway's side towards its client: the session; the bytes read and not yet fed; whether the client has closed its side; how many turns in
-- a row wrote nothing though bytes stood to be written; how many, since the client closed, wrote nothing and took no output, but for those that
-- couldn't write all; how many outputs were passed over; and whether a session is begun and not ended.
pub record Front : Type 0 where
  pub session : Standing
  pub waiting : List ℕ
  pub closed : Bool
  pub deaf : ℕ
  pub idle : ℕ
  pub passed : ℕ
  pub live : Bool

-- what there is around a turn: the side towards the client, what the wire tells, and what the seat at the rings tells
pub record World : Type 0 where
  pub front : Front
  pub wire : Told
  pub desk : Ledger

abbrev pub world : Front → Told → Ledger → World
world front wire desk = record { front = front; wire = wire; desk = desk }

-- where a part of a turn stands: the session, the bytes read and not yet fed, and what wire and seat tell
pub record TurnPlace : Type 0 where
  pub session : Standing
  pub waiting : List ℕ
  pub wire : Told
  pub desk : Ledger

abbrev pub place : Standing → List ℕ → Told → Ledger → TurnPlace
place session waiting wire desk = record { session = session; waiting = waiting; wire = wire; desk = desk }

abbrev pub turn_place : World → TurnPlace
turn_place w = place w.front.session w.front.waiting w.wire w.desk

-- what moves in a part of a turn: bytes fed to the session, bytes that the wire gave and took, messages published,
-- and outputs handed to the session
pub record Moved : Type 0 where
  pub fed : List ℕ
  pub got : List ℕ
  pub put : List ℕ
  pub messages : List (List ℕ)
  pub handed : List Said

abbrev pub nothing_moved : Moved
nothing_moved = record { fed = []; got = []; put = []; messages = []; handed = [] }

-- Whatever lists stand at the session before, those with what moved stand at it after.
abbrev pub Moves : Standing → Standing → Moved → Type 0
Moves old new m =
    (input : List ℕ) (messages : List (List ℕ)) (outs : List Said) (written : List ℕ) →
    At old input messages outs written →
    At new (input ++ m.fed) (messages ++ m.messages) (outs ++ m.handed) (written ++ m.put)

-- the session moves so; what was fed and what is left is what stood in the buffer and what the wire gave; the wire
-- and the desk tell the rest
pub record Step (old new : TurnPlace) (m : Moved) : Type 0 where
  pub moves : Moves old.session new.session m
  pub input : m.fed ++ new.waiting ≡ old.waiting ++ m.got
  pub gave : new.wire.gave ≡ grown old.wire.gave m.got
  pub took : new.wire.took ≡ grown old.wire.took m.put
  pub published : new.desk.published ≡ old.desk.published ++ m.messages
  pub gateway : new.session.gateway ≡ old.session.gateway

-- the outputs taken in a turn: those of a session that is logged on are handed to it, others are passed over
pub record Takes (on : Bool) (old new : Front) (desk desk_after : Ledger) (handed : List Said) : Type 0 where
  pub these : List Said
  pub taken : desk_after.taken ≡ desk.taken ++ these
  pub given : handed ≡ (if on then these else [])
  pub passed : new.passed ≡ old.passed + (if on then 0 else length these)

-- the first words loaded since then show that a claim was refused, or that no sequence was left
abbrev pub WasRefused : Ledger → Ledger → Type 0
WasRefused desk desk_after =
    (ls : List Load) × (IsRefused desk.rows desk.loads ls ⊎ IsExhausted ls) × (rest : List Load) × (desk_after.loads ≡ desk.loads ++ (ls ++ rest))

-- the first word loaded since then is the claim word, and no sequence was left
abbrev pub WasExhausted : Ledger → Ledger → Type 0
WasExhausted desk desk_after =
    (ls : List Load) × IsExhausted ls × (rest : List Load) × (desk_after.loads ≡ desk.loads ++ (ls ++ rest))

-- the last word loaded since then is the marshalled word, and it showed no output at the count
abbrev pub FoundNone : Ledger → Ledger → Type 0
FoundNone desk desk_after =
    (before : List Load) × (desk_after.loads ≡ desk.loads ++ (before ++ load_of marshalled desk_after.count ∷ []))

-- whether the client has closed its side, before and after, by the wire's count of ends: it closes where the wire tells an end, and stays closed
abbrev pub ClosesBy : Bool → Bool → ℕ → ℕ → Type 0
ClosesBy closed closed_after ends ends_after =
    ((closed_after ≡ closed) × (ends_after ≡ ends)) ⊎ ((closed_after ≡ true) × Rose ends ends_after)

-- why nothing was heard: a message is held whose claim was refused; or none is, nothing is left of what was read, and a read answered Nothing or
-- the client has closed its side
abbrev pub Silence : World → World → Type 0
Silence old new =
    ((old.front.session.held ≢ None) × WasRefused old.desk new.desk)
    ⊎ ((old.front.session.held ≡ None) × (new.front.waiting ≡ []) × (Rose old.wire.empty_reads new.wire.empty_reads ⊎ (new.front.closed ≡ true)))

-- something was heard: bytes were fed, where no message was held, or that message was published
abbrev pub Hearing : World → Moved → Type 0
Hearing old m = ((old.front.session.held ≡ None) × (m.fed ≢ [])) ⊎ (m.messages ≢ [])

-- Nothing moved in the turn, and this is why. Bytes stood to be written, and a write answered Nothing. Or there was nothing to hear; and, unless the
-- session closes, there was no output.
pub record IsQuiet (old new : World) (m : Moved) : Type 0 where
  pub still : m ≡ nothing_moved
  pub stuck : old.front.session.outgoing ≢ [] → Rose old.wire.full_writes new.wire.full_writes
  pub unheard : old.front.session.outgoing ≡ [] → Silence old new
  pub untaken : new.desk.count ≡ old.desk.count
  pub unhanded : old.front.session.outgoing ≡ [] → new.front.session.closing ≡ None → FoundNone old.desk new.desk

-- something moved: a byte was read, fed or written, a message published, an output taken or passed over
abbrev pub Moving : Moved → Ledger → Ledger → Type 0
Moving m desk desk_after = (m ≢ nothing_moved) ⊎ (desk.count < desk_after.count)

-- why the session ended in this turn
abbrev pub EndedBy : World → World → Reason → Type 0
EndedBy old new Closed = (new.front.closed ≡ true) × (new.front.idle ≡ 1000) × (old.front.idle ≡ 999)
EndedBy old new WireFailed = Rose old.wire.failures new.wire.failures
EndedBy old new LoggedOut = (new.front.session.closing ≡ Some LoggedOut) × (new.front.session.outgoing ≡ [])
EndedBy old new Refused = (new.front.session.closing ≡ Some Refused) × (new.front.session.outgoing ≡ [])
EndedBy old new Stalled = (new.front.deaf ≡ 100000) × (old.front.deaf ≡ 99999)
EndedBy old new Exhausted = (new.front.session.closing ≡ Some Exhausted) × (new.front.session.outgoing ≡ [])

-- the session goes on: one that closes does so only while bytes stand to be written
pub record GoesOn (old new : Front) : Type 0 where
  pub live : new.live ≡ true
  pub unsaid : old.session.closing ≢ None → new.session.outgoing ≢ []

-- what the answer of a turn means
abbrev pub Means : World → World → Moved → Turned → Type 0
Means old new m Worked = Moving m old.desk new.desk × GoesOn old.front new.front
Means old new m Quiet = IsQuiet old new m × GoesOn old.front new.front
Means old new m (Ended reason) = EndedBy old new reason × (new.front.live ≡ false)

-- How the counts of turns in a row move, but in the turn in which the wire fails. The one that ends a session with 55 rises just where bytes stood to be
-- written and none went out, and begins again where one did. The one that ends it with 51 rises, once the client has closed its side and unless the
-- session closes, just where nothing stood to be written and no output was there, and begins again where all that stood to be written was, or an output
-- was taken or passed over; it stays where something stood to be written and is left.
pub record CountsTurns (old new : World) (m : Moved) (answer : Turned) : Type 0 where
  pub deaf : (new.front.deaf ≡ 0) ⊎ ((new.front.deaf ≡ old.front.deaf)
      ⊎ ((new.front.deaf ≡ old.front.deaf + 1) × (old.front.session.outgoing ≢ []) × (m.put ≡ []) × Rose old.wire.full_writes new.wire.full_writes))
  pub idle : (new.front.idle ≡ 0) ⊎ ((new.front.idle ≡ old.front.idle)
      ⊎ ((new.front.idle ≡ old.front.idle + 1) × (new.front.closed ≡ true) × (m.put ≡ []) × FoundNone old.desk new.desk))
  pub deaf_rises : answer ≢ Ended WireFailed → old.front.session.outgoing ≢ [] → m.put ≡ [] → new.front.deaf ≡ old.front.deaf + 1
  pub idle_rises : answer ≢ Ended WireFailed → new.front.closed ≡ true → new.front.session.closing ≡ None → old.front.session.outgoing ≡ []
      → new.desk.count ≡ old.desk.count → new.front.idle ≡ old.front.idle + 1
  pub wrote : new.front.live ≡ true → m.put ≢ [] → new.front.deaf ≡ 0
  pub wrote_all : new.front.live ≡ true → m.put ≢ [] → m.put ≡ old.front.session.outgoing → new.front.idle ≡ 0
  pub took : new.front.live ≡ true → old.desk.count < new.desk.count → new.front.idle ≡ 0
  pub stuck : m.put ≢ old.front.session.outgoing → new.front.idle ≡ old.front.idle

-- A turn that didn't end the session wrote all that stood to be written, or a write answered Nothing and that was all. If it wrote all, it listened; and,
-- unless the session closes now, it looked for an output.
pub record Attends (old new : World) (m : Moved) : Type 0 where
  pub writes : new.front.live ≡ true → (m.put ≡ old.front.session.outgoing)
      ⊎ (Rose old.wire.full_writes new.wire.full_writes × (m ≡ record nothing_moved { put = m.put }) × (new.desk ≡ old.desk))
  pub listens : new.front.live ≡ true → m.put ≡ old.front.session.outgoing → Hearing old m ⊎ Silence old new
  pub looks : new.front.live ≡ true → m.put ≡ old.front.session.outgoing → new.front.session.closing ≡ None
      → (old.desk.count < new.desk.count) ⊎ FoundNone old.desk new.desk

-- at most one frame is handled: one message more is accepted, or none where the session closes now
pub record HandlesOne (old new : Standing) : Type 0 where
  pub accepts : new.accepted ≤ old.accepted + 1
  pub closes : old.closing ≡ None → new.closing ≢ None → new.accepted ≡ old.accepted

-- a whole turn: it reads at most 512 bytes, and handles at most one frame
pub record Turn (old new : World) (answer : Turned) : Type 0 where
  pub moved : Moved
  pub step : Step (turn_place old) (turn_place new) moved
  pub few : length moved.got ≤ 512
  pub one : HandlesOne old.front.session new.front.session
  pub takes : Takes new.front.session.logged_on old.front new.front old.desk new.desk moved.handed
  pub means : Means old new moved answer
  pub counts : CountsTurns old new moved answer
  pub attends : Attends old new moved
  pub closes : ClosesBy old.front.closed new.front.closed old.wire.ends new.wire.ends
  pub fails : new.wire.failures ≢ old.wire.failures → answer ≡ Ended WireFailed
  pub lost : old.front.session.closing ≡ None → new.front.session.closing ≡ Some Exhausted
      → (old.front.session.held ≢ None) × WasExhausted old.desk new.desk
  pub exhausts : old.front.session.held ≢ None → WasExhausted old.desk new.desk → new.front.session.closing ≡ Some Exhausted

-- a closing session has said one message more
abbrev pub farewell : Option Reason → ℕ
farewell None = 0
farewell (Some reason) = 1

-- Each message said answers an accepted message or is an output taken, but for the Logout.
abbrev pub CountsMessages : Standing → ℕ → Type 0
CountsMessages s count = s.number ≤ 1 + s.accepted + count + farewell s.closing

-- The seat that counts so many outputs is the one that the session was begun with, so it has given all the outputs that the session has said. So
-- the next MsgSeqNum, and the count of outputs passed over, are numbers that the machine has.
pub record GoesWith (s : Standing) (passed count : ℕ) : Type 0 where
  pub number : CountsMessages s count
  pub passed_over : passed ≤ count
  pub few : count ≤ 2 ^ 62
