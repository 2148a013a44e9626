-- The headline, as it can be seen from outside (docs/HEADLINE.md): one history; for each member what its clients sent and were sent; and what the journal keeps.
use Rattle.std.specs.Prelude.{◌≡◌, ◌⊎◌, ℕ, ◌+◌, ◌≤◌, true, false, List, [], ◌∷◌, length, map, Box}
use Rattle.std.specs.Global.{Global}
use Rattle.std.specs.List.{flat_map}
use mathlib.Core.Option.{some}
use lib.ListN.{get_elem?}
use Rattle.venue_model.specs.Counts.{Rose}
use Rattle.venue_model.specs.History.{History, Message}
use Rattle.venue_model.specs.Requests.{Limits}
use Rattle.disks.specs.Disk.{Told}
use Rattle.journal.specs.Format.{IsJournal, HasCut}
use Rattle.gateway.specs.Visits.{DayPart, WasServed, IsFirstOf, acts_in, reports_by, reports_for, came_in, gone_in}
use Rattle.replay.specs.Starts.{HasTrueSnapshots}
use Rattle.ring_words.specs.Ending.{IsBeginning}
use Rattle.stages.specs.Devices.{Device}
use Rattle.venue.specs.Leaving.{LeaveOn}
use Rattle.wires.specs.Ports.{Register, unopened, with_more}
use Rattle.wires.specs.Wires as wires

-- The file is the journal of this history, which is read by this cut, and its snapshots are true: each is that of the entries before it.
pub record IsJournalBy (limits : Limits) (file : List ℕ) (history : History) : Type 0 where
  pub journal : IsJournal file history
  pub by_cut : HasCut file limits.cut
  pub trues : HasTrueSnapshots file limits history

-- The file is the journal of a beginning of the log, which is no shorter than the history at the start.
pub record IsJournalOf (limits : Limits) (base log : History) (file : List ℕ) : Type 0 where
  pub history : History
  pub journal : IsJournalBy limits file history
  pub begins : IsBeginning history log
  pub behind : length base ≤ length history

-- And it has all that brought about the reports that members were given, or that were passed over: they are the first ones for each member by what the file has.
pub record KeepsTold (limits : Limits) (base log : History) (days : List (List DayPart)) (file : List ℕ) : Type 0 where
  pub of_log : IsJournalOf limits base log file
  pub told : (i : ℕ) (day : List DayPart) → get_elem? days i ≡ some day
      → IsFirstOf (flat_map reports_by (flat_map acts_in day)) (reports_for (i + 1) limits base of_log.history)

-- One history, the log: it begins with that of the journal at the start, by whose cut market orders are read, and each later message is one of a member's. Each
-- member was served by it, on its day. A crash meanwhile leaves what it might have left before, or the journal of a beginning of it; and whatever a crash leaves from
-- then on has all that members were told.
pub record OneHistory (limits : Limits) (honest : Type 0) (old new : Told) (days : List (List DayPart)) : Type 0 where
  pub base : History
  pub log : History
  pub cut : ℕ
  pub journal : honest → IsJournalBy (record limits { cut = cut }) old.file base
  pub begins : IsBeginning base log
  pub later : (s : ℕ) (m : Message) → length base ≤ s → get_elem? log s ≡ some m → (1 ≤ m.gateway) × (m.gateway ≤ length days)
  pub served : (i : ℕ) (day : List DayPart) → get_elem? days i ≡ some day → WasServed (i + 1) (record limits { cut = cut }) base log day
  pub meanwhile : honest → (file : List ℕ) → new.left_since old.moment file
      → old.may_leave file ⊎ IsJournalOf (record limits { cut = cut }) base log file
  pub keeps : honest → (file : List ℕ) → new.may_leave file → KeepsTold (record limits { cut = cut }) base log days file

-- one journal, and another of the same history and cut, whose snapshots are true
pub record OfOneHistory (limits : Limits) (old new : List ℕ) : Type 0 where
  pub history : History
  pub cut : ℕ
  pub journal : IsJournal old history
  pub by_cut : HasCut old cut
  pub same : IsJournalBy (record limits { cut = cut }) new history

-- The file is the same, or a journal of the same history; and a crash meanwhile leaves what it might have left before, or such a journal.
pub record KeepsSame (limits : Limits) (honest : Type 0) (old new : Told) : Type 0 where
  pub file : honest → (new.file ≡ old.file) ⊎ OfOneHistory limits old.file new.file
  pub meanwhile : honest → (file : List ℕ) → new.left_since old.moment file → old.may_leave file ⊎ OfOneHistory limits old.file file

-- The clients of a day are those that came in at the port, which was opened, in their order. The port has their wires back: nothing more was written over them, and what still
-- came over them was read over.
pub record CameIn (old new : Register) (day : List DayPart) : Type 0 where
  pub number : new.number ≡ old.number
  pub is_open : new.is_open ≡ true
  pub came : new.came ≡ with_more old.came (came_in day)
  pub back : List wires.Told
  pub gone : new.gone ≡ with_more old.gone back
  pub leave : LeaveOn (gone_in day) back
  pub free : new.out ≡ false

-- what a port in a box tells
abbrev pub in_box : {X : Type 0} → (X → Register) → Box X Global → Register
in_box tells boxed = tells boxed.value

-- ports tell what they told, but for whether they are open
abbrev pub SamePorts : {X : Type 0} → (X → Register) → List X → List X → Type 0
SamePorts tells old new = map (λ x. unopened (tells x)) new ≡ map (λ x. unopened (tells x)) old

-- What can be seen of a run that listens: its disk, and its members' ports.
pub record Boundary (D X : Type 0) : Type 0 where
  pub disk : D
  pub ports : List X

abbrev pub boundary : {D X : Type 0} → D → List X → Boundary D X
boundary disk ports = record { disk = disk; ports = ports }

module _ {D X : Type 0} where
  -- Members were served by one history, each by the clients that came in at its port. The status is 2 just where a call of the disk failed.
  pub record ServesMembers (limits : Limits) (device : Device D) (tells : X → Register) (old new : Boundary D X) (status : ℕ) : Type 0 where
    pub failed : ((status ≡ 2) × Rose (device.failed old.disk) (device.failed new.disk))
        ⊎ ((status ≤ 1) × (device.failed new.disk ≡ device.failed old.disk))
    pub days : List (List DayPart)
    pub all : (length days ≡ length old.ports) × (length new.ports ≡ length old.ports)
    pub history : OneHistory limits (device.honest old.disk) (device.tells old.disk) (device.tells new.disk) days
    pub clients : (i : ℕ) (x y : X) (day : List DayPart) → get_elem? old.ports i ≡ some x → get_elem? new.ports i ≡ some y → get_elem? days i ≡ some day
        → CameIn (tells x) (tells y) day

  -- nobody was served: no client came in, the disk keeps its history, and the status is 1; or members were
  abbrev pub SeenListening : Limits → Device D → (X → Register) → Boundary D X → Boundary D X → ℕ → Type 0
  SeenListening limits device tells old new status =
      ((status ≡ 1) × SamePorts tells old.ports new.ports × KeepsSame limits (device.honest old.disk) (device.tells old.disk) (device.tells new.disk))
      ⊎ ServesMembers limits device tells old new status

-- What can be seen of a run for one client: its disk, and its wire.
pub record Seen : Type 1 where
  pub disk : Told
  pub wire : wires.Told

abbrev pub seen : Told → wires.Told → Seen
seen disk wire = record { disk = disk; wire = wire }

-- The one client was served by one history, over this wire.
pub record ServesClient (limits : Limits) (honest : Type 0) (old new : Seen) : Type 0 where
  pub day : List DayPart
  pub history : OneHistory limits honest old.disk new.disk (day ∷ [])
  pub came : came_in day ≡ old.wire ∷ []
  pub gone : gone_in day ≡ new.wire ∷ []

-- nobody was served: the wire tells what it told, the disk keeps its history, and the status is 1; or the client was
abbrev pub SeenServing : Limits → Type 0 → Seen → Seen → ℕ → Type 0
SeenServing limits honest old new status =
    ((status ≡ 1) × (new.wire ≡ old.wire) × KeepsSame limits honest old.disk new.disk) ⊎ ServesClient limits honest old new
