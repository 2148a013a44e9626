-- What a read leaves in the input buffer.
use Rattle.std.specs.Prelude.{◌≡◌, ℕ, ◌≤◌, List, [], length}
use Rattle.wires.specs.declared.wire.TryRead.{TryRead}
use Rattle.wires.specs.declared.wire.TryRead.TheVariants.{Got, Nothing, End, Failed}
use Rattle.venue_model.specs.Counts.{Rose}
use Rattle.wires.specs.Wires.{Told, grown}

-- the bytes between two places of 512 are left
pub record KeepsInput (bytes : List ℕ) (start upto : ℕ) : Type 0 where
  pub long : length bytes ≡ 512
  pub order : start ≤ upto
  pub within : upto ≤ 512

-- what a read with this answer tells, and what it leaves
abbrev pub Fills : List ℕ → Told → Told → TryRead → Type 0
Fills left old new (Got n) = (1 ≤ n) × (n ≡ length left) × (new ≡ record old { gave = grown old.gave left })
Fills left old new Nothing = (left ≡ []) × Rose old.empty_reads new.empty_reads × (new ≡ record old { empty_reads = new.empty_reads })
Fills left old new End = (left ≡ []) × Rose old.ends new.ends × (new ≡ record old { ends = new.ends })
Fills left old new Failed = (left ≡ []) × Rose old.failures new.failures × (new ≡ record old { failures = new.failures })
