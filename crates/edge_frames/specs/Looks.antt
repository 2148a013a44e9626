-- What a look at some bytes answers.
use Rattle.std.specs.Prelude.{ℕ, ◌+◌, ◌≤◌, ◌<◌, ⊤, List, length, take, drop}
use Rattle.edge_frames.specs.Stream.{Come, FirstOf, WaitsFor, MayBegin, IsPassed}
use Rattle.edge_frames.specs.Messages.{ComesOut}
use Rattle.edge_frames.specs.Lists.{ListsThose}
use Rattle.edge_frames.specs.declared.list.FieldPlace.{FieldPlace}
use Rattle.edge_frames.specs.declared.front.Front.{Front}
use Rattle.edge_frames.specs.declared.front.Front.TheVariants as fronts
use Rattle.edge_frames.specs.declared.front.Message.{Message}
use Rattle.edge_frames.specs.declared.found.Found.{Found}
use Rattle.edge_frames.specs.declared.found.Found.TheVariants as found

-- a message at the front of these bytes, as it comes out
abbrev pub come_of : List ℕ → Message → Come
come_of bytes m = record { text = take m.size bytes; verdict = m.verdict }

-- it comes first, behind so many bytes
pub record ComesFirst (longest most : ℕ) (bytes : List ℕ) (passed : ℕ) (m : Message) : Type 0 where
  pub within : passed + m.size ≤ length bytes
  pub first : FirstOf longest most bytes (take passed bytes)
      (come_of (drop passed bytes) m) (drop (passed + m.size) bytes)

-- None comes: so many bytes are passed over, and one may begin behind them. That is less than one has at most.
pub record NoneComes (longest most : ℕ) (bytes : List ℕ) (passed : ℕ) : Type 0 where
  pub within : passed ≤ length bytes
  pub waits : WaitsFor longest most bytes (take passed bytes) (drop passed bytes)
  pub few : 22 ≤ longest → length bytes < passed + longest

-- which message comes first
abbrev pub Finds : ℕ → ℕ → List ℕ → Found → Type 0
Finds longest most bytes (found.Waits passed) = NoneComes longest most bytes passed
Finds longest most bytes (found.Comes passed m) = ComesFirst longest most bytes passed m

-- and where its fields stand
abbrev pub Lists : List ℕ → ℕ → List FieldPlace → Found → Type 0
Lists bytes room places (found.Waits passed) = ⊤
Lists bytes room places (found.Comes passed m) = ListsThose (take m.size (drop passed bytes)) room places m.fields

-- Private: what stands at the front of some bytes.
abbrev pub StandsInFront : ℕ → ℕ → List ℕ → Front → Type 0
StandsInFront longest most bytes fronts.Nothing = IsPassed longest most bytes
StandsInFront longest most bytes fronts.More = MayBegin longest bytes
StandsInFront longest most bytes (fronts.Comes m) =
    (m.size ≤ length bytes) × ComesOut longest most (take m.size bytes) m.verdict

abbrev pub ListsFront : List ℕ → ℕ → List FieldPlace → Front → Type 0
ListsFront bytes room places fronts.Nothing = ⊤
ListsFront bytes room places fronts.More = ⊤
ListsFront bytes room places (fronts.Comes m) = ListsThose (take m.size bytes) room places m.fields
