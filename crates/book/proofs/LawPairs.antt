-- What holds of each order and each later one.
use Rattle.std.proofs.Common.{◌≡◌, Bool, true, false, List, [], ◌∷◌, ◌++◌, map}
use Rattle.std.specs.Prelude.{filter, if◌then◌else◌}
use Rattle.std.specs.List.{AllByRecursion}
use Rattle.venue_model.specs.declared.orders.Order.{Order}
use Rattle.book.specs.Standing.{Pairwise}
use Rattle.book.proofs.Lists.{each-append, each-filter}

module _ {X : Type 0} where
  pub each-both : (P Q : X → Type 0) (xs : List X) → AllByRecursion P xs → AllByRecursion Q xs
      → AllByRecursion (λ x. P x × Q x) xs
  each-both P Q [] all also = tt
  each-both P Q (x ∷ xs) all also = ((all.0, also.0), each-both P Q xs all.1 also.1)

  -- what holds of all that pass a test
  pub each-tested : (P : X → Type 0) (p : X → Bool) (xs : List X) → AllByRecursion P (filter p xs)
      → AllByRecursion (λ x. p x ≡ true → P x) xs
  each-tested P p [] all = tt
  each-tested P p (x ∷ xs) all = elim (p x) as (λ b. AllByRecursion P (if b then x ∷ filter p xs else filter p xs)
      → (b ≡ true → P x) × AllByRecursion (λ y. p y ≡ true → P y) xs) [
        | true ↦ λ rest. ((λ h. rest.0), each-tested P p xs rest.1)
        | false ↦
            λ rest. ((λ h. cc), each-tested P p xs rest)
      ] all

  pub each-mapped : {Y : Type 0} (P : X → Type 0) (Q : Y → Type 0) (f : X → Y) → ((x : X) → P x → Q (f x))
      → (xs : List X) → AllByRecursion P xs → AllByRecursion Q (map f xs)
  each-mapped P Q f keeps [] all = tt
  each-mapped P Q f keeps (x ∷ xs) all = (keeps x all.0, each-mapped P Q f keeps xs all.1)

module _ (R : Order → Order → Type 0) where
  pub pairs-filter : (p : Order → Bool) (xs : List Order) → Pairwise R xs → Pairwise R (filter p xs)
  pairs-filter p [] pairs = tt
  pairs-filter p (x ∷ xs) pairs = elim (p x) as (λ b. Pairwise R (if b then x ∷ filter p xs else filter p xs))
      [ true ↦ (each-filter (R x) p xs pairs.0, pairs-filter p xs pairs.1) | false ↦ pairs-filter p xs pairs.1 ]

  pub pairs-push : (xs : List Order) (o : Order) → Pairwise R xs → AllByRecursion (λ x. R x o) xs
      → Pairwise R (xs ++ o ∷ [])
  pairs-push [] o pairs last = (tt, tt)
  pairs-push (x ∷ xs) o pairs last = (
    each-append (R x) xs (o ∷ []) pairs.0 (last.0, tt),
    pairs-push xs o pairs.1 last.1,
  )

  -- a change of each order that keeps it, where K holds of each
  pub pairs-map : (K : Order → Type 0) (f : Order → Order) → ((a b : Order) → K a → K b → R a b → R (f a) (f b)) →
      (xs : List Order) → AllByRecursion K xs → Pairwise R xs → Pairwise R (map f xs)
  pairs-map K f keeps [] all pairs = tt
  pairs-map K f keeps (x ∷ xs) all pairs = (
    each-mapped (λ y. K y × R x y) (R (f x)) f (λ y h. keeps x y all.0 h.0 h.1) xs
        (each-both K (R x) xs all.1 pairs.0),
    pairs-map K f keeps xs all.1 pairs.1,
  )
