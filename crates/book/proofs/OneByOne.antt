-- A list that is gone through one element behind the other, each asked for by the one before it.
use Rattle.std.proofs.Common.{◌≡◌, ℕ, zero, suc, ◌<◌, Option, Some, None, List, [], ◌∷◌, ◌++◌, length, take, drop}
use Rattle.std.proofs.Common.{slice_get, take-append-drop}
use Rattle.std.proofs.Common.{refl, ap, sym, ◌∙◌, subst, arith}
use Rattle.std.specs.Prelude.{IsSome}
use Rattle.std.specs.List.{AllByRecursion, flat_map}
use Rattle.std.proofs.lemmas.Grind.{flat_map-append}
use Rattle.std.proofs.Common.{append-nil}

module _ {X : Type 0} where
  -- so many have been seen, the last of them this one
  abbrev pub IsAt : List X → ℕ → Option X → Type 0
  IsAt all i None = i ≡ 0
  IsAt all i (Some x) = (before : List X) × (all ≡ before ++ x ∷ drop i all)

  -- then the next one is the first of those that are left
  pub next_at : (all : List X) (i : ℕ) (from next : Option X) → IsAt all i from →
      (from ≡ None → next ≡ slice_get all 0) →
      ((before behind : List X) (x : X) → from ≡ Some x → all ≡ before ++ x ∷ behind → next ≡ slice_get behind 0) →
      next ≡ slice_get (drop i all) 0
  next_at all i None next at first then = rw at (first refl)
  next_at all i (Some x) next at first then = then at.0 (drop i all) x refl at.1

  -- it stands first among those that are left, and what holds of each holds of it
  pub next_is : (all : List X) (i : ℕ) {from next : Option X} {x : X} → IsAt all i from →
      (from ≡ None → next ≡ slice_get all 0) →
      ((before behind : List X) (x : X) → from ≡ Some x → all ≡ before ++ x ∷ behind → next ≡ slice_get behind 0) →
      next ≡ Some x → Some x ≡ slice_get (drop i all) 0
  next_is all i {from} {next} at first then is = sym is ∙ next_at all i from next at first then

  pub next_has : (P : X → Type 0) (all : List X) (i : ℕ) (x : X) → Some x ≡ slice_get (drop i all) 0
      → AllByRecursion P all → P x
  next_has P [] zero x is each = cc
  next_has P [] (suc i) x is each = cc
  next_has P (y ∷ ys) zero x is each = let same : y ≡ x = cc in subst P same each.0
  next_has P (y ∷ ys) (suc i) x is each = next_has P ys i x is each.1

  -- there is a next one, if not all have been seen
  some_left : (all : List X) (i : ℕ) → i < length all → (x : X) × (slice_get (drop i all) 0 ≡ Some x)
  some_left [] i within = absurd (omega arith)
  some_left (x ∷ xs) zero within = (x, refl)
  some_left (x ∷ xs) (suc i) within = some_left xs i (omega arith)

  pub has_next : (all : List X) (i : ℕ) {from next : Option X} → IsAt all i from →
      (from ≡ None → next ≡ slice_get all 0) →
      ((before behind : List X) (x : X) → from ≡ Some x → all ≡ before ++ x ∷ behind → next ≡ slice_get behind 0) →
      i < length all → IsSome next
  has_next all i {from} {next} at first then within =
      subst IsSome (sym (next_at all i from next at first then ∙ (some_left all i within).1)) refl

  -- it stands in front of those that are left, and behind those that have been seen
  first_left : (all : List X) (i : ℕ) (x : X) → Some x ≡ slice_get (drop i all) 0 → drop i all ≡ x ∷ drop (suc i) all
  first_left [] zero x is = cc
  first_left [] (suc i) x is = cc
  first_left (y ∷ ys) zero x is = cc
  first_left (y ∷ ys) (suc i) x is = first_left ys i x is

  take_first : (all : List X) (i : ℕ) (x : X) → Some x ≡ slice_get (drop i all) 0
      → take (suc i) all ≡ take i all ++ x ∷ []
  take_first [] zero x is = cc
  take_first [] (suc i) x is = cc
  take_first (y ∷ ys) zero x is = cc
  take_first (y ∷ ys) (suc i) x is = ap (λ l. y ∷ l) (take_first ys i x is)

  -- now it is the last one that has been seen
  pub one_more : (all : List X) (i n : ℕ) (x : X) → Some x ≡ slice_get (drop i all) 0 → suc i ≡ n → IsAt all n (Some x)
  one_more all i n x is next = subst (λ m. IsAt all m (Some x)) next
      (take i all, sym (take-append-drop i all) ∙ ap (λ rest. take i all ++ rest) (first_left all i x is))

  -- and what is written of it comes behind what was written of those before it
  pub written_more : {Y : Type 0} (f : X → List Y) (all : List X) (i n : ℕ) (x : X) → Some x ≡ slice_get (drop i all) 0
      → suc i ≡ n → flat_map f (take i all) ++ f x ≡ flat_map f (take n all)
  written_more f all i n x is next = subst (λ m. flat_map f (take i all) ++ f x ≡ flat_map f (take m all)) next
      (sym (ap (flat_map f) (take_first all i x is) ∙ flat_map-append f (take i all) (x ∷ [])
      ∙ ap (λ t. flat_map f (take i all) ++ t) (append-nil (f x))))
