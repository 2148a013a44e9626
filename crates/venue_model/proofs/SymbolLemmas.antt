-- A name in eight bytes that were zeros keeps a symbol.
use Rattle.std.proofs.Common.{ℕ, List, [], ◌∷◌, ◌++◌, length, drop, ◌∙◌, arith, length-append, length-drop}
use Rattle.std.proofs.Math.Seq.{take-append_seam, drop-append_seam}
use Rattle.std.proofs.lemmas.List.{drop-replicate}
use Rattle.venue_model.specs.Spelling.{IsSpelling, KeepsSymbol}

-- eight bytes of zero
abbrev pub zeros : List ℕ
zeros = 0 ∷ 0 ∷ 0 ∷ 0 ∷ 0 ∷ 0 ∷ 0 ∷ 0 ∷ []

pub keeps_name : (name : List ℕ) → IsSpelling name → KeepsSymbol (name ++ drop (length name) zeros) (length name)
keeps_name name spelling = record {
  within = spelling.most;
  long = length-append name (drop (length name) zeros) ∙ omega (arith, length-drop (length name) zeros, spelling.most);
  spelling = rw take-append_seam spelling;
  padding = drop-append_seam name (drop (length name) zeros) ∙ drop-replicate (length name) 8 0;
}
