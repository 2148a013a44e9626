-- What each part of a turn tells: parts are private, a turn is what they come to.
use Rattle.std.specs.Prelude.{◌≡◌, ◌≢◌, ◌⊎◌, ℕ, ◌+◌, ◌≤◌, ◌<◌, ◌^◌, Bool, true, false, List, [], ◌∷◌, ◌++◌, length, Some, None}
use Rattle.fix_orders.specs.Text.{Said}
use Rattle.gateway.specs.declared.ending.Reason.TheVariants.{Closed, Stalled, Exhausted}
use Rattle.gateway.specs.declared.ending.Turned.{Turned}
use Rattle.gateway.specs.declared.ending.Turned.TheVariants.{Worked, Quiet, Ended}
use Rattle.gateway.specs.declared.gateway.Found.{Found}
use Rattle.gateway.specs.declared.gateway.Found.TheVariants.{Something, Nothing, Failed}
use Rattle.venue_model.specs.Counts.{Rose}
use Rattle.wires.specs.Wires.{Told, grown}
use Rattle.ring_words.specs.declared.view.Load.{Load}
use Rattle.ring_words.specs.Places.{claim, marshalled}
use Rattle.ring_words.specs.Seats.{load_of}
use Rattle.gateway.specs.Ledgers.{Ledger, ledger_loading}
use Rattle.gateway.specs.Turns.{Front, World, world, turn_place, Moved, nothing_moved, Moves, Step, Takes, CountsMessages, WasExhausted, ClosesBy, Hearing, Silence, HandlesOne}

-- what was heard
abbrev pub HeardSo : World → World → Moved → Found → Type 0
HeardSo old new m Something = Hearing old m
HeardSo old new m Nothing = (m ≡ nothing_moved) × Silence old new
HeardSo old new m Failed = Rose old.wire.failures new.wire.failures

-- the part of a turn that publishes, or reads and hears
pub record Hears (old new : World) (answer : Found) : Type 0 where
  pub moved : Moved
  pub step : Step (turn_place old) (turn_place new) moved
  pub others : new.front ≡ record old.front { session = new.front.session; waiting = new.front.waiting; closed = new.front.closed }
  pub loaded : List Load
  pub ledger : new.desk ≡ record (ledger_loading old.desk loaded) { published = new.desk.published }
  pub few : length moved.got ≤ 512
  pub one : HandlesOne old.front.session new.front.session
  pub unwritten : moved.put ≡ []
  pub unhanded : moved.handed ≡ []
  pub counts : (count : ℕ) → CountsMessages old.front.session count → CountsMessages new.front.session count
  pub room : length new.front.session.outgoing ≤ 512
  pub next : new.front.session.number ≤ old.front.session.number + 1
  pub lost : new.front.session.closing ≡ Some Exhausted → (old.front.session.held ≢ None) × WasExhausted old.desk new.desk
  pub tried : old.front.session.held ≢ None → (value : ℕ) × (more : List Load) × (loaded ≡ load_of claim value ∷ more)
      × (value ≡ 2 ^ 48 → new.front.session.closing ≡ Some Exhausted)
  pub closes : ClosesBy old.front.closed new.front.closed old.wire.ends new.wire.ends
  pub alive : answer ≢ Failed → new.wire.failures ≡ old.wire.failures
  pub so : HeardSo old new moved answer

-- the message held was tried to publish, and the wire wasn't touched
abbrev pub Publishes : Front → Front → Ledger → Ledger → Found → Type 0
Publishes old new desk desk_after answer = (wire : Told) → Hears (world old wire desk) (world new wire desk_after) answer

-- what a read gave
abbrev pub ReadSo : Front → Front → Told → Told → List ℕ → Found → Type 0
ReadSo old new wire wire_after got Something = got ≢ []
ReadSo old new wire wire_after got Nothing =
    (got ≡ []) × ((old.waiting ≢ []) ⊎ (Rose wire.empty_reads wire_after.empty_reads ⊎ (new.closed ≡ true)))
ReadSo old new wire wire_after got Failed = (got ≡ []) × Rose wire.failures wire_after.failures

-- a read, where one was due
pub record Reads (old new : Front) (wire wire_after : Told) (answer : Found) : Type 0 where
  pub got : List ℕ
  pub few : length got ≤ 512
  pub others : new ≡ record old { waiting = new.waiting; closed = new.closed }
  pub waiting : new.waiting ≡ old.waiting ++ got
  pub gave : wire_after.gave ≡ grown wire.gave got
  pub took : wire_after.took ≡ wire.took
  pub closes : ClosesBy old.closed new.closed wire.ends wire_after.ends
  pub alive : answer ≢ Failed → wire_after.failures ≡ wire.failures
  pub so : ReadSo old new wire wire_after got answer

-- an output was taken or passed over, or there was none
abbrev pub TookSo : Front → Front → Ledger → Ledger → List Said → Bool → Type 0
TookSo old new desk desk_after handed true = desk.count < desk_after.count
TookSo old new desk desk_after handed false =
    (handed ≡ []) × (new ≡ old) × (desk_after.count ≡ desk.count) × (old.session.closing ≡ None → desk_after ≡ ledger_loading desk (load_of marshalled desk.count ∷ []))

-- the part of a turn that takes an output
pub record HandsOn (old new : Front) (desk desk_after : Ledger) (took : Bool) : Type 0 where
  pub handed : List Said
  pub moves : Moves old.session new.session (record nothing_moved { handed = handed })
  pub others : new ≡ record old { session = new.session; passed = new.passed }
  pub gateway : new.session.gateway ≡ old.session.gateway
  pub closing : new.session.closing ≡ old.session.closing
  pub accepted : new.session.accepted ≡ old.session.accepted
  pub held : new.session.held ≡ old.session.held
  pub takes : Takes new.session.logged_on old new desk desk_after handed
  pub loaded : List Load
  pub ledger : desk_after ≡ record (ledger_loading desk loaded) { taken = desk_after.taken; count = desk_after.count }
  pub counts : CountsMessages old.session desk.count → CountsMessages new.session desk_after.count
  pub passed_over : old.passed ≤ desk.count → new.passed ≤ desk_after.count
  pub few : desk.count ≤ 2 ^ 62 → desk_after.count ≤ 2 ^ 62
  pub so : TookSo old new desk desk_after handed took

-- an output was passed over, whoever it goes to, or there was none
abbrev pub PassedSo : Ledger → Ledger → Bool → Type 0
PassedSo desk desk_after true = desk_after.count ≡ desk.count + 1
PassedSo desk desk_after false = desk_after ≡ ledger_loading desk (load_of marshalled desk.count ∷ [])

-- a look of a gateway without a session; outputs that go to its client are counted
pub record PassesOver (old new : Front) (desk desk_after : Ledger) (took : Bool) : Type 0 where
  pub these : List Said
  pub taken : desk_after.taken ≡ desk.taken ++ these
  pub passed : new ≡ record old { passed = old.passed + length these }
  pub loaded : List Load
  pub ledger : desk_after ≡ record (ledger_loading desk loaded) { taken = desk_after.taken; count = desk_after.count }
  pub so : PassedSo desk desk_after took

-- what a turn comes to that wrote all: it worked, or rested, or rested once too often behind the client's end
abbrev pub RestsSo : Front → Front → Bool → Found → Bool → Turned → Type 0
RestsSo old new wrote heard took Worked = (new.live ≡ old.live) × ((wrote ≡ true) ⊎ (took ≡ true) ⊎ (heard ≡ Something))
RestsSo old new wrote heard took Quiet = (new.live ≡ old.live) × (wrote ≡ false) × (took ≡ false) × (heard ≢ Something)
RestsSo old new wrote heard took (Ended reason) = (new.live ≡ false) × (reason ≡ Closed) × (old.closed ≡ true) × (new.idle ≡ 1000) × (old.idle ≡ 999)

-- how it counts turns behind the client's end
abbrev pub Waits : Front → Front → Bool → Bool → Type 0
Waits old new true took = new.idle ≡ 0
Waits old new false true = new.idle ≡ 0
Waits old new false false =
    ((new.idle ≡ old.idle) × (old.closed ≡ true → old.session.closing ≡ None → ⊥))
    ⊎ ((new.idle ≡ old.idle + 1) × (old.closed ≡ true) × (old.session.closing ≡ None))

pub record Rests (old new : Front) (wrote : Bool) (heard : Found) (took : Bool) (answer : Turned) : Type 0 where
  pub waits : Waits old new wrote took
  pub others : new ≡ record old { idle = new.idle; live = new.live }
  pub so : RestsSo old new wrote heard took answer

-- what a turn comes to that couldn't write all
abbrev pub StuckSo : Front → Front → Bool → Turned → Type 0
StuckSo old new wrote Worked = (new.live ≡ old.live) × (wrote ≡ true) × (new.deaf ≡ 0)
StuckSo old new wrote Quiet = (new.live ≡ old.live) × (wrote ≡ false) × (new.deaf ≡ old.deaf + 1)
StuckSo old new wrote (Ended reason) = (new.live ≡ false) × (reason ≡ Stalled) × (new.deaf ≡ 100000) × (wrote ≡ false) × (new.deaf ≡ old.deaf + 1)

pub record Stuck (old new : Front) (wrote : Bool) (answer : Turned) : Type 0 where
  pub others : new ≡ record old { deaf = new.deaf; live = new.live }
  pub so : StuckSo old new wrote answer
