-- What is written, and where.
use Rattle.std.specs.Prelude.{◌≡◌, ℕ, ◌+◌, ◌≤◌, List, ◌++◌, length, take, drop}
use Rattle.fix_frame.specs.Grammar.{Field, IsBody, print_fields}

-- the bytes are the body of these fields
pub record SpellsBody (most : ℕ) (fields : List Field) (bytes : List ℕ) : Type 0 where
  pub body : IsBody most fields
  pub spells : bytes ≡ print_fields fields

-- these bytes stand from a place on, and nothing else behind that place is changed
pub record PutsBytes (old new : List ℕ) (at : ℕ) (bytes : List ℕ) (behind : ℕ) : Type 0 where
  pub behind_is : behind ≡ at + length bytes
  pub front : take behind new ≡ take at old ++ bytes
  pub rest : (k : ℕ) → behind ≤ k → drop k new ≡ drop k old
