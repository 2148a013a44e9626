-- Private: where a list is cut.
use Rattle.std.specs.Prelude.{◌≡◌, ◌≢◌, ℕ, ◌-◌, ◌≤◌, List, ◌∷◌, ◌++◌, length, take, slice_index}
use Rattle.std.specs.List.{AllByRecursion}
use Rattle.std.specs.Fmt.{decimal}
use Rattle.fix_frame.specs.Ascii.{soh, equals_sign}
use Rattle.fix_frame.specs.Grammar.{Field, IsField, field_then}

-- no byte of these is the mark
abbrev pub Lacks : ℕ → List ℕ → Type 0
Lacks mark bytes = AllByRecursion (λ b. b ≢ mark) bytes

-- a number that a tag can be
abbrev pub IsTag : ℕ → Type 0
IsTag n = (1 ≤ n) × (n ≤ 99999)

-- the last byte is SOH
abbrev pub EndsInSoh : List ℕ → Type 0
EndsInSoh bytes = slice_index bytes (length bytes - 1) ≡ soh

-- no tag stands at the front, with its equals sign
abbrev pub BeginsNoTag : List ℕ → Type 0
BeginsNoTag bytes = (n : ℕ) (rest : List ℕ) → IsTag n → bytes ≢ decimal n ++ equals_sign ∷ rest

-- no field stands at the front
abbrev pub BeginsNoField : List ℕ → Type 0
BeginsNoField bytes = (f : Field) (rest : List ℕ) → IsField f → bytes ≢ field_then f rest

-- the field stands at the front, and the rest behind it
pub record BeginsField (bytes : List ℕ) (f : Field) (rest : List ℕ) : Type 0 where
  pub right : IsField f
  pub spells : bytes ≡ field_then f rest

-- the bytes without the last of them
abbrev pub all_but_last : List ℕ → List ℕ
all_but_last bytes = take (length bytes - 1) bytes
