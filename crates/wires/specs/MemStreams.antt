-- A stream in memory: what it holds, and what its calls do.
use Rattle.std.specs.Prelude.{◌≡◌, ℕ, ◌+◌, ◌-◌, ◌^◌, ◌<◌, ◌≤◌, min, Bool, true, false, List, [], ◌++◌, length, take, Option, Some, Ok, Err}
use Rattle.std.specs.IoError.{error_kind}
use Rattle.std.specs.declared.io.Error.{Error}
use Rattle.std.specs.declared.io.ErrorKind.TheVariants.{WouldBlock}
use Rattle.std.specs.declared.result.Result.{Result}
use Rattle.wires.specs.StdWires.{IsPassing}

-- what it has to give and how much of that it gave, what it took, how it was set, and whether it was said that nothing
-- more is written
pub record MemoryStream : Type 0 where
  pub input : List ℕ
  pub given : ℕ
  pub taken : List ℕ
  -- at most so many bytes a read
  pub piece : ℕ
  -- it ends behind its input, else reads answer WouldBlock there
  pub closes : Bool
  -- so many bytes are taken in all; from there on writes fail, or else answer WouldBlock
  pub room : ℕ
  pub breaks : Bool
  pub shut : Bool

-- as it is made: nothing moved yet, its input comes whole and then ends, and all bytes are taken
abbrev pub new_stream : List ℕ → MemoryStream
new_stream input = record {
  input = input;
  given = 0;
  taken = [];
  piece = 2 ^ 64 - 1;
  closes = true;
  room = 2 ^ 64 - 1;
  breaks = false;
  shut = false;
}

-- the bytes that it gave, and those that it took
abbrev pub gave_of : MemoryStream → Option (List ℕ)
gave_of s = Some (take s.given s.input)

abbrev pub took_of : MemoryStream → Option (List ℕ)
took_of s = Some s.taken

-- what a read into so much space does: it gives the next bytes while there are some, then answers as it was set
abbrev pub GivesBytes : MemoryStream → MemoryStream → ℕ → Result ℕ Error → Type 0
GivesBytes old new space (Ok n) =
    (n ≡ min (min (length old.input - old.given) old.piece) space) × (n ≡ 0 → old.closes ≡ true)
    × (new ≡ record old { given = old.given + n })
GivesBytes old new space (Err error) =
    (old.given ≡ length old.input) × (old.closes ≡ false) × (error_kind error ≡ WouldBlock) × (new ≡ old)

-- what a write does: it takes bytes while there is room, then answers as it was set; with room left only a refusal of
-- memory fails it
abbrev pub TakesBytes : MemoryStream → MemoryStream → List ℕ → Result ℕ Error → Type 0
TakesBytes old new bytes (Ok n) =
    (0 < n) × (n ≡ min (old.room - length old.taken) (length bytes)) × (new ≡ record old { taken = old.taken ++ take n bytes })
TakesBytes old new bytes (Err error) =
    (IsPassing (error_kind error) → (old.room ≤ length old.taken) × (old.breaks ≡ false))
    × (¬ IsPassing (error_kind error) → old.breaks ≡ false → length old.taken < old.room) × (new ≡ old)

-- it was said that nothing more is written
abbrev pub IsShut : MemoryStream → MemoryStream → Type 0
IsShut old new = new ≡ record old { shut = true }
