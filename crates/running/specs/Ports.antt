-- The ports of the members of a venue that listens.
use Rattle.std.specs.Global.{Global}
use Rattle.std.specs.Prelude.{◌≡◌, ℕ, ◌+◌, false, List, None, Box}
use mathlib.Core.Option.{some}
use lib.ListN.{get_elem?}
use Rattle.wires.specs.Ports.{Register}

-- that of member k has the number first + k - 1, nobody listens there, and no client has come there
abbrev pub ArePorts : {X : Type 0} → (X → Register) → ℕ → List (Box X Global) → Type 0
ArePorts tells first ports = (i : ℕ) (port : Box _ Global) → get_elem? ports i ≡ some port
    → tells port.value ≡ record { number = first + i; is_open = false; came = None; gone = None; out = false }
