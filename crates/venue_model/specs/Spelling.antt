-- How a symbol is spelled (Symbol, tag 55; docs/PROFILE.md, "Formats").
use Rattle.std.specs.Prelude.{◌≡◌, ℕ, ◌-◌, ◌≤◌, Bool, true, false, not, [], ◌∷◌, ◌&&◌, ◌||◌, IsTrue, List, ◌++◌, length, replicate, take, drop, nat_le}
use Rattle.std.specs.List.{list_all, list_any, AllByRecursion}
use Rattle.std.specs.Str.{bytes_eq}
use Rattle.std.proofs.Common.{ap, sym, ◌∙◌, arith, take-append-drop, length-take-le}

-- A to Z, 0 to 9
abbrev pub is_symbol_byte : ℕ → Bool
is_symbol_byte b = (nat_le 65 b && nat_le b 90) || (nat_le 48 b && nat_le b 57)

-- 1 to 8 bytes of these
pub record IsSpelling (name : List ℕ) : Type 0 where
  pub some : 1 ≤ length name
  pub most : length name ≤ 8
  pub each : IsTrue (list_all is_symbol_byte name)

-- no name stands twice
abbrev pub all_differ : List (List ℕ) → Bool
all_differ [] = true
all_differ (name ∷ names) = not (list_any (λ other. bytes_eq other name) names) && all_differ names

-- the names of a venue's symbols: 1 to 8, each spelled right, none twice
pub record AreSymbols (names : List (List ℕ)) : Type 0 where
  pub some : 1 ≤ length names
  pub most : length names ≤ 8
  pub each : AllByRecursion IsSpelling names
  pub differ : IsTrue (all_differ names)

-- a name that a table of these names can take
pub record CanJoin (names : List (List ℕ)) (name : List ℕ) : Type 0 where
  pub spelling : IsSpelling name
  pub new : list_any (bytes_eq name) names ≡ false

-- the name in eight bytes, zeros behind it
abbrev pub padded : List ℕ → List ℕ
padded name = name ++ replicate (8 - length name) 0

-- eight bytes keep the symbol in the first few, and zeros behind it
pub record KeepsSymbol (bytes : List ℕ) (len : ℕ) : Type 0 where
  pub within : len ≤ 8
  pub long : length bytes ≡ 8
  pub spelling : IsSpelling (take len bytes)
  pub padding : drop len bytes ≡ replicate (8 - len) 0

-- the length that is kept is the name's
pub kept_length : (bytes : List ℕ) (len : ℕ) → KeepsSymbol bytes len → length (take len bytes) ≡ len
kept_length bytes len keeps = length-take-le len bytes (omega (arith, keeps.within, keeps.long))

-- a name gives its eight bytes back
pub padded-take : (bytes : List ℕ) (len : ℕ) → KeepsSymbol bytes len → padded (take len bytes) ≡ bytes
padded-take bytes len keeps =
    ap (λ k. take len bytes ++ replicate (8 - k) 0) (kept_length bytes len keeps)
    ∙ ap (λ rest. take len bytes ++ rest) (sym keeps.padding)
    ∙ take-append-drop len bytes
