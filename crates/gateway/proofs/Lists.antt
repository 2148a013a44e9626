-- Lists with one more at the end.
use Rattle.std.proofs.Common.{◌≡◌, ℕ, zero, suc, ◌+◌, Bool, true, false, ◌&&◌, ◌||◌, List, [], ◌∷◌, ◌++◌, length, take}
use Rattle.std.proofs.Common.{refl, ap, sym, ◌∙◌, append-nil, length-append}
use mathlib.Core.Option.{some, some-ne-none, some-injective}
use lib.ListN.{get_elem?}
use Rattle.std.specs.List.{flat_map, list_all, list_any, AllByRecursion}
use Rattle.std.specs.Cmp.Derive.{both_true}
use Rattle.std.proofs.lemmas.Grind.{flat_map-append}

pub and_left : (a b : Bool) → (a && b) ≡ true → a ≡ true
and_left true b h = refl
and_left false b h = h

pub and_right : (a b : Bool) → (a && b) ≡ true → b ≡ true
and_right true b h = h
and_right false b h = cc

module _ {X : Type 0} where
  -- two lists that are nothing together are nothing each
  pub no_front : (xs ys : List X) → xs ++ ys ≡ [] → xs ≡ []
  no_front [] ys e = refl
  no_front (x ∷ xs) ys e = cc

  pub no_end : (xs ys : List X) → xs ++ ys ≡ [] → ys ≡ []
  no_end [] ys e = e
  no_end (x ∷ xs) ys e = cc

  pub flat_map-push : {Y : Type 0} (f : X → List Y) (xs : List X) (x : X)
      → flat_map f (xs ++ x ∷ []) ≡ flat_map f xs ++ f x
  flat_map-push f xs x = flat_map-append f xs (x ∷ []) ∙ ap (λ ys. flat_map f xs ++ ys) (append-nil (f x))

  pub list_all-push : (p : X → Bool) (xs : List X) (x : X) → list_all p xs ≡ true → p x ≡ true
      → list_all p (xs ++ x ∷ []) ≡ true
  list_all-push p [] x all this = ap (λ b. b && true) this
  list_all-push p (y ∷ xs) x all this = both_true (and_left _ _ all) (list_all-push p xs x (and_right _ _ all) this)

  pub AllByRecursion-push : (P : X → Type 0) (xs : List X) (x : X) → AllByRecursion P xs → P x
      → AllByRecursion P (xs ++ x ∷ [])
  AllByRecursion-push P [] x all this = (this, tt)
  AllByRecursion-push P (y ∷ xs) x all this = (all.0, AllByRecursion-push P xs x all.1 this)

  pub list_any-push : (p : X → Bool) (xs : List X) (x : X) → list_any p (xs ++ x ∷ []) ≡ (list_any p xs || p x)
  list_any-push p [] x = elim (p x) as (λ b. (b || false) ≡ b) [ true ↦ refl | false ↦ refl ]
  list_any-push p (y ∷ xs) x = elim (p y) as (λ b. (b || list_any p (xs ++ x ∷ [])) ≡ ((b || list_any p xs) || p x))
      [ true ↦ refl | false ↦ list_any-push p xs x ]

  pub length-push : (xs : List X) (x : X) → length (xs ++ x ∷ []) ≡ length xs + 1
  length-push xs x = length-append xs (x ∷ [])

  -- the first ones and the one behind them
  pub take_next : (l : List X) (i : ℕ) (x : X) → get_elem? l i ≡ some x → take (suc i) l ≡ take i l ++ x ∷ []
  take_next [] i x at = absurd (some-ne-none x (sym at))
  take_next (y ∷ l) zero x at = ap (λ z. z ∷ []) (some-injective y x at)
  take_next (y ∷ l) (suc i) x at = ap (λ m. y ∷ m) (take_next l i x at)
