-- What the calls of a stream tell of its bytes, and bytes that stand at the end of what was told.
use Rattle.std.specs.Prelude.{◌≡◌, ℕ, ◌≤◌, List, length, take, Option, Ok, Err}
use Rattle.std.specs.declared.io.Error.{Error}
use Rattle.std.specs.declared.result.Result.{Result}
use Rattle.wires.specs.Wires.{grown}

-- a call with this result moved the first of these bytes, so many, and tells so; one that failed moved none
abbrev pub MovesBytes : Option (List ℕ) → Option (List ℕ) → List ℕ → Result ℕ Error → Type 0
MovesBytes old new bytes (Ok n) = (n ≤ length bytes) × (new ≡ grown old (take n bytes))
MovesBytes old new bytes (Err error) = new ≡ old
