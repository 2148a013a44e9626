-- The eight bytes of a symbol tell its name: what isn't zero among them.
use Rattle.std.proofs.Common.{◌≡◌, ℕ, zero, suc, Bool, true, false, not, true≢false, nat_eq, List, [], ◌∷◌, ◌++◌}
use Rattle.std.proofs.Common.{replicate, take, refl, ap, sym, subst, ◌∙◌}
use Rattle.std.specs.Prelude.{if◌then◌else◌}
use Rattle.std.specs.List.{list_all, filter}
use Rattle.std.specs.Str.{bytes_eq}
use Rattle.std.proofs.lemmas.Bool.{ne_eqb, and_parts}
use Rattle.std.proofs.lemmas.Bool.Decides.{same_from_decides}
use Rattle.std.proofs.lemmas.Slice.Eq.{bytes_eq-Decides}
use Rattle.venue_model.specs.Spelling.{is_symbol_byte, KeepsSymbol, padded, padded-take}

-- what isn't zero of some bytes
abbrev some_byte : ℕ → Bool
some_byte b = not (nat_eq b 0)

abbrev nonzero : List ℕ → List ℕ
nonzero bytes = filter some_byte bytes

-- no zero stands in a name
symbol-byte : (b : ℕ) → is_symbol_byte b ≡ true → some_byte b ≡ true
symbol-byte b is = ap not (ne_eqb b 0 (λ (e : b ≡ 0). true≢false (sym (subst (λ n. is_symbol_byte n ≡ true) e is))))

nonzero-more : (b : ℕ) (bytes rest : List ℕ) (is : Bool) → some_byte b ≡ is → is ≡ true → nonzero bytes ≡ rest
    → nonzero (b ∷ bytes) ≡ b ∷ rest
nonzero-more b bytes rest true some is same = ap (λ (k : Bool). if k then b ∷ nonzero bytes else nonzero bytes) some
    ∙ ap (λ xs. b ∷ xs) same
nonzero-more b bytes rest false some is same = cc

nonzero-zeros : (n : ℕ) → nonzero (replicate n 0) ≡ []
nonzero-zeros zero = refl
nonzero-zeros (suc n) = nonzero-zeros n

nonzero-name : (name : List ℕ) (n : ℕ) → list_all is_symbol_byte name ≡ true → nonzero (name ++ replicate n 0) ≡ name
nonzero-name [] n each = nonzero-zeros n
nonzero-name (b ∷ name) n each =
    let parts = and_parts (is_symbol_byte b) (list_all is_symbol_byte name) each in
    nonzero-more b (name ++ replicate n 0) name (some_byte b) refl (symbol-byte b parts.0) (nonzero-name name n parts.1)

-- so the bytes that keep a name give it back
nonzero-kept : (bytes : List ℕ) (len : ℕ) → KeepsSymbol bytes len → nonzero bytes ≡ take len bytes
nonzero-kept bytes len keeps = ap nonzero (sym (padded-take bytes len keeps))
    ∙ nonzero-name (take len bytes) _ keeps.spelling.each

-- and to compare them is to compare the names
pub bytes-tell : (x y : List ℕ) (m n : ℕ) → KeepsSymbol x m → KeepsSymbol y n
    → bytes_eq x y ≡ bytes_eq (take m x) (take n y)
bytes-tell x y m n kept keeps = same_from_decides _ _ (
  (λ h. sym (nonzero-kept x m kept) ∙ ap nonzero ((bytes_eq-Decides x y).0 h) ∙ nonzero-kept y n keeps),
  (λ e. (bytes_eq-Decides x y).1 (sym (padded-take x m kept) ∙ ap padded e ∙ padded-take y n keeps)),
)
    (bytes_eq-Decides (take m x) (take n y))
