-- A member's port: the wires of the clients that come in there, one after another, and what becomes of them.
use Rattle.std.specs.Prelude.{◌≡◌, ◌⊎◌, ℕ, ◌+◌, Bool, true, false, List, [], ◌∷◌, ◌++◌, map, replicate, Option, Some, None, option_map}
use Rattle.wires.specs.MemWires.{Memory, told_memory}
use Rattle.wires.specs.Wires.{Told}

-- What a port tells: its number, as TCP has it; whether it is open; what the wires of its clients tell, each None where the port tells none, as they came and as they were given
-- back; and whether a client's wire is out, which came and wasn't given back yet.
pub record Register : Type 0 where
  pub number : ℕ
  pub is_open : Bool
  pub came : Option (List Told)
  pub gone : Option (List Told)
  pub out : Bool

-- the same, but for whether it is open
abbrev pub unopened : Register → Register
unopened r = record r { is_open = false }

-- what is told of some wires, and then of more
abbrev pub with_more : Option (List Told) → List Told → Option (List Told)
with_more known more = option_map (λ wires. wires ++ more) known

-- a client came in, whose wire tells this, or none did
abbrev pub LetsIn : {W : Type 0} → (W → Told) → Register → Register → Option W → Type 0
LetsIn tells old new None = new ≡ old
LetsIn tells old new (Some wire) = new ≡ record old { came = with_more old.came (tells wire ∷ []); out = true }

-- the wire of a client that has left was given back
abbrev pub SeesLeave : Register → Register → Told → Type 0
SeesLeave old new told = new ≡ record old { gone = with_more old.gone (told ∷ []); out = false }

-- A PORT IN MEMORY

-- what a wire tells that nothing has moved over
abbrev pub unmoved : Told
unmoved = record { gave = Some []; took = Some []; failures = 0; empty_reads = 0; full_writes = 0; ends = 0; quiet = true }

abbrev pub IsUnmoved : Memory → Type 0
IsUnmoved m = told_memory m ≡ unmoved

-- its number, whether it is open, how many clients came in, those who are still to come, the next one last, those who have left, and whether one is in
pub record MemoryPort : Type 0 where
  pub number : ℕ
  pub is_open : Bool
  pub came : ℕ
  pub coming : List Memory
  pub gone : List Memory
  pub out : Bool

-- it tells all of them
abbrev pub told_register : MemoryPort → Register
told_register p = record { number = p.number; is_open = p.is_open; came = Some (replicate p.came unmoved); gone = Some (map told_memory p.gone); out = p.out }

-- a client in memory came in, or none did
abbrev pub LetsMemoryIn : MemoryPort → MemoryPort → Option Memory → Type 0
LetsMemoryIn old new None = (new ≡ old) × ((old.is_open ≡ false) ⊎ (old.coming ≡ []))
LetsMemoryIn old new (Some wire) =
    (old.is_open ≡ true) × (old.coming ≡ new.coming ++ wire ∷ [])
    × (new ≡ record old { came = old.came + 1; coming = new.coming; out = true })
