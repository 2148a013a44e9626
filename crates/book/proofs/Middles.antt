-- Lists of which one element in the middle alone passes a test; tests and numbers.
use Rattle.std.proofs.Common.{◌≡◌, ℕ, ◌⊎◌, ◌&&◌, arith, Bool, true, false, not, List, [], ◌∷◌, ◌++◌, map, refl, ap, ◌∙◌}
use Rattle.std.proofs.Common.{Some, None}
use Rattle.std.specs.Prelude.{◌≢◌, filter, find, if◌then◌else◌}
use Rattle.std.specs.List.{AllByRecursion}

pub some-same : {X : Type 0} {x y : X} → Some x ≡ Some y → x ≡ y
some-same h = cc

pub and-first : (a b : Bool) → (a && b) ≡ true → a ≡ true
and-first true b h = refl
and-first false b h = h

pub and-last : (a b : Bool) → (a && b) ≡ true → b ≡ true
and-last true b h = h
and-last false b h = cc

pub not-true : (b : Bool) → (b ≡ true → ⊥) → b ≡ false
not-true true h = absurd (h refl)
not-true false h = refl

pub same-or-not : (a b : ℕ) → (a ≡ b) ⊎ (a ≢ b)
same-or-not a b = grind arith

module _ {X : Type 0} (t : X → Bool) where
  pub find-none : (xs : List X) → AllByRecursion (λ x. t x ≡ false) xs → find t xs ≡ None
  find-none [] none = refl
  find-none (x ∷ xs) none = ap (λ b. if b then Some x else find t xs) none.0 ∙ find-none xs none.1

  pub find-middle : (xs ys : List X) (o : X) → t o ≡ true → AllByRecursion (λ x. t x ≡ false) xs
      → find t (xs ++ o ∷ ys) ≡ Some o
  find-middle [] ys o passes none = ap (λ b. if b then Some o else find t ys) passes
  find-middle (x ∷ xs) ys o passes none = ap (λ b. if b then Some x else find t (xs ++ o ∷ ys)) none.0
      ∙ find-middle xs ys o passes none.1

  pub filter-rest : (xs : List X) → AllByRecursion (λ x. t x ≡ false) xs → filter (λ x. not (t x)) xs ≡ xs
  filter-rest [] none = refl
  filter-rest (x ∷ xs) none =
      ap (λ b. if not b then x ∷ filter (λ x. not (t x)) xs else filter (λ x. not (t x)) xs) none.0
      ∙ ap (λ zs. x ∷ zs) (filter-rest xs none.1)

  pub filter-middle : (xs ys : List X) (o : X) → t o ≡ true → AllByRecursion (λ x. t x ≡ false) xs
      → AllByRecursion (λ x. t x ≡ false) ys
      → filter (λ x. not (t x)) (xs ++ o ∷ ys) ≡ xs ++ ys
  filter-middle [] ys o passes none more =
      ap (λ b. if not b then o ∷ filter (λ x. not (t x)) ys else filter (λ x. not (t x)) ys) passes
      ∙ filter-rest ys more
  filter-middle (x ∷ xs) ys o passes none more =
      ap (λ b. if not b then x ∷ filter (λ x. not (t x)) (xs ++ o ∷ ys) else filter (λ x. not (t x)) (xs ++ o ∷ ys))
      none.0
      ∙ ap (λ zs. x ∷ zs) (filter-middle xs ys o passes none.1 more)

  module _ (f : X → X) where
    pub map-rest : (xs : List X) → AllByRecursion (λ x. t x ≡ false) xs → map (λ x. if t x then f x else x) xs ≡ xs
    map-rest [] none = refl
    map-rest (x ∷ xs) none =
        ap (λ b. (if b then f x else x) ∷ map (λ x. if t x then f x else x) xs) none.0
        ∙ ap (λ zs. x ∷ zs) (map-rest xs none.1)

    pub map-middle : (xs ys : List X) (o : X) → t o ≡ true → AllByRecursion (λ x. t x ≡ false) xs
        → AllByRecursion (λ x. t x ≡ false) ys
        → map (λ x. if t x then f x else x) (xs ++ o ∷ ys) ≡ xs ++ f o ∷ ys
    map-middle [] ys o passes none more =
        ap (λ b. (if b then f o else o) ∷ map (λ x. if t x then f x else x) ys) passes
        ∙ ap (λ zs. f o ∷ zs) (map-rest ys more)
    map-middle (x ∷ xs) ys o passes none more =
        ap (λ b. (if b then f x else x) ∷ map (λ x. if t x then f x else x) (xs ++ o ∷ ys)) none.0
        ∙ ap (λ zs. x ∷ zs) (map-middle xs ys o passes none.1 more)
