-- Laws on lists that are read by place.
use Rattle.std.proofs.Common.{◌≡◌, ℕ, zero, suc, ◌+◌, ◌<◌, List, [], ◌∷◌, ◌++◌, ◌⊎◌, inl, inr, ⊎_elim, length, get_or, refl, ap, sym, subst, arith}
use mathlib.Core.Option.{some, some-injective, some-ne-none}
use lib.ListN.{get_elem?}

-- something stands at each place of a list
pub stands : {A : Type 0} (l : List A) (i : ℕ) → i < length l → (a : A) × (get_elem? l i ≡ some a)
stands [] i h = absurd (omega arith)
stands (x ∷ xs) zero h = (x, refl)
stands (x ∷ xs) (suc i) h = stands xs i (omega arith)

-- nothing stands beyond its end
pub within : {A : Type 0} (l : List A) (i : ℕ) (a : A) → get_elem? l i ≡ some a → i < length l
within [] i a e = absurd (some-ne-none a (sym e))
within (x ∷ xs) zero a e = omega arith
within (x ∷ xs) (suc i) a e = let h = within xs i a e in omega arith

-- in a list with one more element stands what stood there, or that element at the end
pub at_end : {A : Type 0} (l : List A) (a b : A) (j : ℕ) → get_elem? (l ++ a ∷ []) j ≡ some b → (get_elem? l j ≡ some b) ⊎ ((j ≡ length l) × (a ≡ b))
at_end [] a b zero e = inr (refl, some-injective a b e)
at_end [] a b (suc j) e = absurd (some-ne-none b (sym e))
at_end (x ∷ xs) a b zero e = inl e
at_end (x ∷ xs) a b (suc j) e = ⊎_elim (λ t. inl t) (λ t. inr (ap suc t.0, t.1)) (at_end xs a b j e)

-- what stands in the first of two lists stands in both, one behind the other
pub at_longer : {A : Type 0} (l m : List A) (i : ℕ) (a : A) → get_elem? l i ≡ some a → get_elem? (l ++ m) i ≡ some a
at_longer [] m i a at = absurd (some-ne-none a (sym at))
at_longer (x ∷ l) m zero a at = at
at_longer (x ∷ l) m (suc i) a at = at_longer l m i a at

-- and what stands in the second, behind the length of the first
pub at_behind : {A : Type 0} (l m : List A) (i j : ℕ) (a : A) → j ≡ length l + i → get_elem? m i ≡ some a → get_elem? (l ++ m) j ≡ some a
at_behind [] m i j a is at = let same : i ≡ j = omega arith in subst (λ (k : ℕ). get_elem? m k ≡ some a) same at
at_behind (x ∷ l) m i zero a is at = absurd (omega arith)
at_behind (x ∷ l) m i (suc j) a is at = at_behind l m i j a (omega arith) at

-- what stands at a place is what is read there
pub read_at : (l : List ℕ) (i a : ℕ) → get_elem? l i ≡ some a → a ≡ get_or l i 0
read_at [] i a e = absurd (some-ne-none a (sym e))
read_at (x ∷ xs) zero a e = sym (some-injective x a e)
read_at (x ∷ xs) (suc i) a e = read_at xs i a e
