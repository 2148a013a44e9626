-- Lists whose elements a function treats alike, and lists with one element in the middle.
use Rattle.std.proofs.Common.{◌≡◌, ℕ, suc, ◌+◌, Bool, true, false, List, [], ◌∷◌, ◌++◌, length, map, refl, ap, sym, ◌∙◌}
use Rattle.std.proofs.Common.{arith}
use Rattle.std.specs.Prelude.{sum_by, filter, if◌then◌else◌}
use Rattle.std.specs.List.{flat_map, AllByRecursion}
use Rattle.std.proofs.lemmas.List.Elements.{filter-append}
use Rattle.std.proofs.lemmas.List.Sums.{sum_by-append, sum_by-cons}

module _ {X : Type 0} where
  -- two functions that give the same of each element
  pub same_map : {Y : Type 0} (f g : X → Y) (xs : List X) → AllByRecursion (λ x. f x ≡ g x) xs → map f xs ≡ map g xs
  same_map f g [] all = refl
  same_map f g (x ∷ xs) all = ap (λ y. y ∷ map f xs) all.0 ∙ ap (λ ys. g x ∷ ys) (same_map f g xs all.1)

  pub same-self : (xs : List X) → map (λ x. x) xs ≡ xs
  same-self [] = refl
  same-self (x ∷ xs) = ap (λ ys. x ∷ ys) (same-self xs)

  pub same_flat_map : {Y : Type 0} (f g : X → List Y) (xs : List X) → AllByRecursion (λ x. f x ≡ g x) xs
      → flat_map f xs ≡ flat_map g xs
  same_flat_map f g [] all = refl
  same_flat_map f g (x ∷ xs) all = ap (λ y. y ++ flat_map f xs) all.0
      ∙ ap (λ ys. g x ++ ys) (same_flat_map f g xs all.1)

  pub same_sum : (f g : X → ℕ) (xs : List X) → AllByRecursion (λ x. f x ≡ g x) xs → sum_by f xs ≡ sum_by g xs
  same_sum f g [] all = refl
  same_sum f g (x ∷ xs) all = sum_by-cons f x xs ∙ ap (λ n. n + sum_by f xs) all.0
      ∙ ap (λ n. g x + n) (same_sum f g xs all.1) ∙ sym (sum_by-cons g x xs)

  pub same_filter : (p q : X → Bool) (xs : List X) → AllByRecursion (λ x. p x ≡ q x) xs → filter p xs ≡ filter q xs
  same_filter p q [] all = refl
  same_filter p q (x ∷ xs) all = ap (λ b. if b then x ∷ filter p xs else filter p xs) all.0
      ∙ ap (λ ys. if q x then x ∷ ys else ys) (same_filter p q xs all.1)

  -- a test that all pass, or none
  pub filter-all : (p : X → Bool) (xs : List X) → AllByRecursion (λ x. p x ≡ true) xs → filter p xs ≡ xs
  filter-all p [] all = refl
  filter-all p (x ∷ xs) all = ap (λ b. if b then x ∷ filter p xs else filter p xs) all.0
      ∙ ap (λ ys. x ∷ ys) (filter-all p xs all.1)

  pub filter-none : (p : X → Bool) (xs : List X) → AllByRecursion (λ x. p x ≡ false) xs → filter p xs ≡ []
  filter-none p [] all = refl
  filter-none p (x ∷ xs) all = ap (λ b. if b then x ∷ filter p xs else filter p xs) all.0 ∙ filter-none p xs all.1

  -- each of two lists, one after the other
  pub each-append : (P : X → Type 0) (xs ys : List X) → AllByRecursion P xs → AllByRecursion P ys
      → AllByRecursion P (xs ++ ys)
  each-append P [] ys all more = more
  each-append P (x ∷ xs) ys all more = (all.0, each-append P xs ys all.1 more)

  pub each-front : (P : X → Type 0) (xs ys : List X) → AllByRecursion P (xs ++ ys) → AllByRecursion P xs
  each-front P [] ys all = tt
  each-front P (x ∷ xs) ys all = (all.0, each-front P xs ys all.1)

  pub each-back : (P : X → Type 0) (xs ys : List X) → AllByRecursion P (xs ++ ys) → AllByRecursion P ys
  each-back P [] ys all = all
  each-back P (x ∷ xs) ys all = each-back P xs ys all.1

  pub each-map : (P Q : X → Type 0) → ((x : X) → P x → Q x) → (xs : List X) → AllByRecursion P xs → AllByRecursion Q xs
  each-map P Q f [] all = tt
  each-map P Q f (x ∷ xs) all = (f x all.0, each-map P Q f xs all.1)

  pub each-of : (P : X → Type 0) → ((x : X) → P x) → (xs : List X) → AllByRecursion P xs
  each-of P f [] = tt
  each-of P f (x ∷ xs) = (f x, each-of P f xs)

  pub each-filter : (P : X → Type 0) (p : X → Bool) (xs : List X) → AllByRecursion P xs → AllByRecursion P (filter p xs)
  each-filter P p [] all = tt
  each-filter P p (x ∷ xs) all = elim (p x) as (λ b. AllByRecursion P (if b then x ∷ filter p xs else filter p xs))
      [ true ↦ (all.0, each-filter P p xs all.1) | false ↦ each-filter P p xs all.1 ]

  -- what passes a test also has what follows from passing it
  pub each-passes : (P : X → Type 0) (p : X → Bool) (xs : List X) → AllByRecursion (λ x. p x ≡ true → P x) xs
      → AllByRecursion P (filter p xs)
  each-passes P p [] all = tt
  each-passes P p (x ∷ xs) all = elim (p x) as (λ b. p x ≡ b
      → AllByRecursion P (if b then x ∷ filter p xs else filter p xs))
      [ true ↦ λ h. (all.0 h, each-passes P p xs all.1) | false ↦ λ h. each-passes P p xs all.1 ] refl

  -- one in the middle
  pub filter-in : (p : X → Bool) (xs ys : List X) (x : X) → p x ≡ true
      → filter p (xs ++ x ∷ ys) ≡ filter p xs ++ x ∷ filter p ys
  filter-in p xs ys x passes = filter-append p xs (x ∷ ys)
      ∙ ap (λ b. filter p xs ++ (if b then x ∷ filter p ys else filter p ys)) passes

  pub filter-out : (p : X → Bool) (xs ys : List X) (x : X) → p x ≡ false → filter p (xs ++ x ∷ ys) ≡ filter p (xs ++ ys)
  filter-out p xs ys x fails = filter-append p xs (x ∷ ys)
      ∙ ap (λ b. filter p xs ++ (if b then x ∷ filter p ys else filter p ys)) fails ∙ sym (filter-append p xs ys)

  pub sum-middle : (f : X → ℕ) (xs ys : List X) (x : X) → sum_by f (xs ++ x ∷ ys) ≡ f x + sum_by f (xs ++ ys)
  sum-middle f xs ys x =
      let whole = sum_by-append f xs (x ∷ ys) in
      let more = sum_by-cons f x ys in
      let rest = sum_by-append f xs ys in
      omega (arith, whole, more, rest)

  pub length-without : (xs ys : List X) (x : X) → length (xs ++ x ∷ ys) ≡ suc (length (xs ++ ys))
  length-without [] ys x = refl
  length-without (y ∷ xs) ys x = ap suc (length-without xs ys x)
