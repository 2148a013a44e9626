-- A listener in memory: what it holds, what it tells, and what its calls do.
use Rattle.std.specs.Prelude.{◌≡◌, ◌⊎◌, ℕ, ◌+◌, ◌-◌, Bool, true, false, List, [], ◌∷◌, ◌++◌, map, replicate, Option, Some, None}
use Rattle.wires.specs.GatheringWires.{Gathering, told_gathering}
use Rattle.wires.specs.Listeners.{Lobby, as_it_came}
use Rattle.wires.specs.MemStreams.{MemoryStream, gave_of, took_of}
use Rattle.wires.specs.Ports.{unmoved}
use Rattle.wires.specs.StreamWires.{told_stream}
use Rattle.wires.specs.Wires.{Told}
use Rattle.wires.specs.declared.stream_wire.StreamWire.{StreamWire}

-- nothing has moved over this stream
abbrev pub IsAsMade : MemoryStream → Type 0
IsAsMade stream = as_it_came gave_of took_of stream ≡ unmoved

-- what the wire over such a stream tells
abbrev pub told_wire : Gathering (StreamWire MemoryStream) → Told
told_wire = told_gathering (told_stream gave_of took_of)

-- its number, whether it is open, how many connections it accepted and hasn't let go, those that are still to come, the next one last, how many it let go,
-- the wires that it took back, and whether one is out
pub record MemoryListener : Type 0 where
  pub number : ℕ
  pub is_open : Bool
  pub came : ℕ
  pub coming : List MemoryStream
  pub let_go : ℕ
  pub gone : List (Gathering (StreamWire MemoryStream))
  pub out : Bool

-- as it is made
abbrev pub new_listener : ℕ → List MemoryStream → MemoryListener
new_listener number coming =
    record { number = number; is_open = false; came = 0; coming = coming; let_go = 0; gone = []; out = false }

-- it tells all of them
abbrev pub told_lobby : MemoryListener → Lobby
told_lobby l = record {
  number = l.number;
  is_open = l.is_open;
  came = Some (replicate l.came unmoved);
  let_go = Some (replicate l.let_go unmoved);
  gone = Some (map told_wire l.gone);
  out = l.out;
}

-- a connection came, the next one of those that were to come, or none did
abbrev pub AcceptsMemory : MemoryListener → MemoryListener → Option MemoryStream → Type 0
AcceptsMemory old new None = (new ≡ old) × ((old.is_open ≡ false) ⊎ (old.coming ≡ []))
AcceptsMemory old new (Some stream) =
    (old.is_open ≡ true) × (old.coming ≡ new.coming ++ stream ∷ []) × (new ≡ record old { came = old.came + 1; coming = new.coming })

-- the connection that was accepted last has a wire, or was let go
abbrev pub MakesMemoryWire : MemoryListener → MemoryListener → Option (Gathering (StreamWire MemoryStream)) → Type 0
MakesMemoryWire old new (Some wire) = new ≡ record old { out = true }
MakesMemoryWire old new None = new ≡ record old { came = old.came - 1; let_go = old.let_go + 1 }
