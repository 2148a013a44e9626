-- What holds at each place of a list, counted from 1, holds of its front and of its last one; and with one more behind
-- it, of the whole.
use Rattle.std.proofs.Common.{◌≡◌, ℕ, ◌+◌, List, [], ◌∷◌, ◌++◌, ◌⊎◌, inl, inr, ⊎_elim, length, refl, ap, sym, subst}
use Rattle.std.proofs.Common.{arith}
use Rattle.std.proofs.Common.{length-append}
use mathlib.Core.Option.{some}
use lib.ListN.{get_elem?}
use Rattle.venue_model.specs.ListLaws.{at_behind, at_end, within}

module _ {A : Type 0} (P : ℕ → A → Type 0) (all front : List A) (x : A) (is : all ≡ front ++ x ∷ []) where
  pub of_last : ((i : ℕ) (y : A) → get_elem? all i ≡ some y → P (i + 1) y) → (n : ℕ) → n ≡ length all → P n x
  of_last each n count =
      let long = ap length is in let more = length-append front (x ∷ []) in
      let place : length front + 1 ≡ n = omega (arith, count, long, more) in
      subst (λ (k : ℕ). P k x) place
      (each (length front) x (subst (λ (l : List A). get_elem? l (length front) ≡ some x) (sym is)
      (at_behind front (x ∷ []) 0 (length front) x (omega arith) refl)))

  pub with_last : ((i : ℕ) (y : A) → get_elem? front i ≡ some y → P (i + 1) y) → (n : ℕ) → n ≡ length front + 1 → P n x
      → (i : ℕ) (y : A) → get_elem? all i ≡ some y → P (i + 1) y
  with_last each n count last i y there = ⊎_elim (λ before. each i y before)
      (λ (end : (i ≡ length front) × (x ≡ y)). let place : n ≡ i + 1 = let at = end.0 in omega (arith, count, at) in
      subst (λ z. P (i + 1) z) end.1 (subst (λ (k : ℕ). P k x) place last))
      (at_end front x y i (subst (λ (l : List A). get_elem? l i ≡ some y) is there))

-- What holds at each place of three lists, of the same length, holds with one more behind each.
module _ {A B C : Type 0} (P : ℕ → A → B → C → Type 0) (xs : List A) (bs : List B) (cs : List C) (a : A) (b : B) (c : C)
    (xs_are : length xs ≡ length bs) (cs_are : length cs ≡ length bs)
    (each : (i : ℕ) (x : A) (y : B) (z : C) → get_elem? xs i ≡ some x → get_elem? bs i ≡ some y
    → get_elem? cs i ≡ some z → P (i + 1) x y z)
    (n : ℕ) (count : n ≡ length bs + 1) (last : P n a b c) where
  -- the place is within all three, or it is that of the last ones
  all_before : (i : ℕ) (x : A) (y : B) (z : C) → get_elem? xs i ≡ some x
      → (get_elem? bs i ≡ some y) ⊎ ((i ≡ length bs) × (b ≡ y))
      → (get_elem? cs i ≡ some z) ⊎ ((i ≡ length cs) × (c ≡ z)) → P (i + 1) x y z
  all_before i x y z there (inl in_bs) (inl in_cs) = each i x y z there in_bs in_cs
  all_before i x y z there (inl in_bs) (inr (end, same)) = let near = within xs i x there in
      absurd (omega (arith, near, end, xs_are, cs_are))
  all_before i x y z there (inr (end, same)) other = let near = within xs i x there in
      absurd (omega (arith, near, end, xs_are))

  all_last : (i : ℕ) (x : A) (y : B) (z : C) → i ≡ length xs → a ≡ x
      → (get_elem? bs i ≡ some y) ⊎ ((i ≡ length bs) × (b ≡ y))
      → (get_elem? cs i ≡ some z) ⊎ ((i ≡ length cs) × (c ≡ z)) → P (i + 1) x y z
  all_last i x y z end same (inl in_bs) other = let near = within bs i y in_bs in
      absurd (omega (arith, near, end, xs_are))
  all_last i x y z end same (inr in_bs) (inl in_cs) = let near = within cs i z in_cs in
      absurd (omega (arith, near, end, xs_are, cs_are))
  all_last i x y z end same (inr (at, same')) (inr (at', same'')) =
      let place : n ≡ i + 1 = omega (arith, count, at) in
      subst (λ (w : A). P (i + 1) w y z) same (subst (λ (w : B). P (i + 1) a w z) same' (subst
      (λ (w : C). P (i + 1) a b w) same''
      (subst (λ (k : ℕ). P k a b c) place last)))

  pub with_three : (i : ℕ) (x : A) (y : B) (z : C) → get_elem? (xs ++ a ∷ []) i ≡ some x
      → get_elem? (bs ++ b ∷ []) i ≡ some y
      → get_elem? (cs ++ c ∷ []) i ≡ some z → P (i + 1) x y z
  with_three i x y z in_xs in_bs in_cs = ⊎_elim
      (λ before. all_before i x y z before (at_end bs b y i in_bs) (at_end cs c z i in_cs))
      (λ (end : (i ≡ length xs) × (a ≡ x)). all_last i x y z end.0 end.1 (at_end bs b y i in_bs)
      (at_end cs c z i in_cs))
      (at_end xs a x i in_xs)
