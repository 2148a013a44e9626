-- The headline at one gateway: what its session read, published, gave its client and wrote, held against what its seat took of the rings.
use Rattle.std.specs.Prelude.{◌≡◌, ℕ, ◌+◌, List, [], ◌++◌, length}
use Rattle.fix_orders.specs.Text.{Said}
use Rattle.gateway.specs.Gateways.{AtRings}
use Rattle.gateway.specs.Ledgers.{Ledger}
use Rattle.gateway.specs.Seats.{ledger_of}
use Rattle.gateway.specs.Standing.{At}
use Rattle.gateway.specs.Turns.{Front, Moved, world, Turn}
use Rattle.gateway.specs.declared.ending.Turned.{Turned}
use Rattle.wires.specs.Wires.{Told, grown}

-- the course of a session so far: the bytes fed to it, the messages published, the outputs given to its client, and the bytes written
pub record Course : Type 0 where
  pub input : List ℕ
  pub messages : List (List ℕ)
  pub outs : List Said
  pub written : List ℕ

abbrev pub nothing_yet : Course
nothing_yet = record { input = []; messages = []; outs = []; written = [] }

-- the same with what moved in a turn
abbrev pub further : Course → Moved → Course
further c m = record { input = c.input ++ m.fed; messages = c.messages ++ m.messages; outs = c.outs ++ m.handed; written = c.written ++ m.put }

-- where a session began: what the gateway's seat and the wire told then, and how many outputs were passed over
pub record Start : Type 0 where
  pub desk : Ledger
  pub wire : Told
  pub passed : ℕ

-- A session that began there has had this course. It stands where that leaves it, as the profile says: what was written, and what stands to be
-- written, are the frames of its answers and of the outputs given, in one order, each numbered. The messages published are those that the seat
-- published since. The outputs that the seat took since, which are the ones addressed to the client, in order, of the one history that the seat has
-- seen, are those missed, which came before the Logon and are counted, and behind them the ones given: none is left out. The wire gave what was fed
-- and what waits to be, and took what was written.
pub record Delivers (start : Start) (front : Front) (wire : Told) (desk : Ledger) (c : Course) : Type 0 where
  pub stands : At front.session c.input c.messages c.outs c.written
  pub published : desk.published ≡ start.desk.published ++ c.messages
  pub missed : List Said
  pub taken : desk.taken ≡ start.desk.taken ++ (missed ++ c.outs)
  pub passed_over : front.passed ≡ start.passed + length missed
  pub gave : wire.gave ≡ grown start.wire.gave (c.input ++ front.waiting)
  pub took : wire.took ≡ grown start.wire.took c.written

-- a session begins here, at input rings of n rows, with this wire
abbrev pub starts : ℕ → AtRings → Told → Start
starts n g wire = record { desk = ledger_of n g.seat; wire = wire; passed = g.front.passed }

-- a session that is begun has had no course, whatever the wire
abbrev pub BeginsSession : AtRings → Type 0
BeginsSession g = (n : ℕ) (wire : Told) → Delivers (starts n g wire) g.front wire (ledger_of n g.seat) nothing_yet

-- A turn of the gateway: and whatever course the session had before, it has had the same with what moved in this turn.
pub record Proceeds (n : ℕ) (old new : AtRings) (wire wire_after : Told) (answer : Turned) : Type 0 where
  pub turn : Turn (world old.front wire (ledger_of n old.seat)) (world new.front wire_after (ledger_of n new.seat)) answer
  pub delivers : (start : Start) (c : Course) → Delivers start old.front wire (ledger_of n old.seat) c →
      Delivers start new.front wire_after (ledger_of n new.seat) (further c turn.moved)
