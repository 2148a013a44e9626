-- Writing into a buffer that the caller lends, one piece behind the other.
use Rattle.std.specs.Prelude.{◌≡◌, ℕ, ◌+◌, List, ◌++◌, length, take, drop}
use Rattle.fix_frame.specs.Grammar.{Field, print_fields}

-- Bytes were written into a buffer from one place to another: they stand there, and what stood before and
-- behind them still does.
pub record Puts (old new : List ℕ) (at upto : ℕ) (bytes : List ℕ) : Type 0 where
  pub written : take upto new ≡ take at old ++ bytes
  pub behind : drop upto new ≡ drop upto old
  pub long : upto ≡ at + length bytes

-- the same of fields
pub record PutsFields (old new : List ℕ) (at upto : ℕ) (fields : List Field) : Type 0 where
  pub written : take upto new ≡ take at old ++ print_fields fields
  pub behind : drop upto new ≡ drop upto old
  pub long : upto ≡ at + length (print_fields fields)
