-- The symbols copied over eight times the first one keep the table.
use Rattle.std.proofs.Common.{◌≡◌, ℕ, ◌-◌, ◌≤◌, List, [], ◌∷◌, ◌++◌, length, replicate, drop, get_or, ap, sym, ◌∙◌}
use Rattle.std.proofs.Common.{arith, length-append, length-drop}
use Rattle.std.proofs.Math.Seq.{take-append_seam, drop-append_seam}
use Rattle.std.proofs.lemmas.List.{drop-replicate}
use Rattle.venue_model.specs.Requests.{Symbols}
use Rattle.venue_model.specs.Spelling.{AreSymbols}
use Rattle.book.specs.Tables.{KeepsTable, first_symbol}

-- a name eight times
abbrev pub eight : List ℕ → Symbols
eight name = name ∷ name ∷ name ∷ name ∷ name ∷ name ∷ name ∷ name ∷ []

first-is : (names : Symbols) (first : List ℕ) → first ≡ get_or names 0 first → 1 ≤ length names
    → first ≡ first_symbol names
first-is [] first is some = absurd (omega (arith, some))
first-is (name ∷ names) first is some = is

pub keeps_table : (names : Symbols) (first : List ℕ) → first ≡ get_or names 0 first → AreSymbols names →
    KeepsTable (names ++ drop (length names) (eight first)) (length names)
keeps_table names first is table = record {
  within = table.most;
  long = length-append names (drop (length names) (eight first))
      ∙ omega (arith, length-drop (length names) (eight first), table.most);
  table = rw take-append_seam table;
  padding = drop-append_seam names (drop (length names) (eight first)) ∙ drop-replicate (length names) 8 first
      ∙ ap (replicate (8 - length names))
      (first-is names first is table.some ∙ ap first_symbol
      (sym (take-append_seam names (drop (length names) (eight first)))));
}
