-- A venue's symbols in eight places.
use Rattle.std.specs.Prelude.{◌≡◌, ℕ, ◌-◌, ◌≤◌, List, [], ◌∷◌, ◌++◌, length, replicate, take, drop}
use Rattle.std.proofs.Common.{ap, sym, ◌∙◌, arith, take-append-drop, length-take-le}
use Rattle.venue_model.specs.Requests.{Symbols}
use Rattle.venue_model.specs.Spelling.{AreSymbols}

abbrev pub first_symbol : Symbols → List ℕ
first_symbol [] = []
first_symbol (name ∷ names) = name

-- the symbols, and the first of them again in the places that are left
abbrev pub in_eight : Symbols → Symbols
in_eight names = names ++ replicate (8 - length names) (first_symbol names)

-- eight places keep the symbols in the first few, and the first of them behind these
pub record KeepsTable (places : Symbols) (count : ℕ) : Type 0 where
  pub within : count ≤ 8
  pub long : length places ≡ 8
  pub table : AreSymbols (take count places)
  pub padding : drop count places ≡ replicate (8 - count) (first_symbol (take count places))

pub kept_count : (places : Symbols) (count : ℕ) → KeepsTable places count → length (take count places) ≡ count
kept_count places count keeps = length-take-le count places (omega (arith, keeps.within, keeps.long))

-- the symbols give the places back
pub in_eight-take : (places : Symbols) (count : ℕ) → KeepsTable places count → in_eight (take count places) ≡ places
in_eight-take places count keeps =
    ap (λ k. take count places ++ replicate (8 - k) (first_symbol (take count places))) (kept_count places count keeps)
    ∙ ap (λ rest. take count places ++ rest) (sym keeps.padding)
    ∙ take-append-drop count places
