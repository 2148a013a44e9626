-- The fills of a match come in the order of priority: the list that tells them has each order ahead of the next.
use Rattle.std.proofs.Common.{◌≡◌, ℕ, ◌<◌, Bool, true, false, ◌&&◌, ◌||◌, nat_eq, nat_lt, List, [], ◌∷◌, refl, ap, sym}
use Rattle.std.proofs.Common.{◌∙◌, arith}
use Rattle.std.specs.Prelude.{filter, if◌then◌else◌}
use Rattle.std.specs.List.{AllByRecursion}
use Rattle.std.specs.List.Sorted.{IsPermutation}
use Rattle.std.proofs.lemmas.List.Sorted.{IsPermutation-refl, IsPermutation-sym, IsPermutation-cons}
use Rattle.std.proofs.lemmas.List.Sorted.{IsPermutation-trans, IsPermutation-middle}
use Rattle.std.proofs.lemmas.Bool.Decides.{nat_tests}
use Rattle.venue_model.specs.declared.orders.Side.{Side}
use Rattle.venue_model.specs.declared.orders.Side.TheVariants.{Buy, Sell}
use Rattle.venue_model.specs.declared.orders.Order.{Order}
use Rattle.venue_model.specs.Orders.{opposite, crosses, is_better, ahead}
use Rattle.venue_model.specs.Match.{crossing, fill, insert_by_priority, by_priority, filled_orders}
use Rattle.book.specs.Standing.{Rising}
use Rattle.book.specs.Passes.{Leads}
use Rattle.book.specs.Laws.{Pairwise}
use Rattle.book.proofs.Lists.{each-map, each-of, each-filter, each-passes}
use Rattle.book.proofs.Priority.{each-insert, each-by_priority}
use Rattle.book.proofs.Sides.{crossed-side, leads-trans}
use Rattle.book.proofs.LawPairs.{each-both}
use Rattle.book.proofs.LawSums.{IsOf, rising-filter}

abbrev pub Ahead : Order → Order → Type 0
Ahead a b = ahead a b ≡ true

prior-later : (side : Side) (p s q t : ℕ) → (p ≡ q → s < t) → (is_better side p q || (nat_eq p q && nat_lt s t)) ≡ false
    → (is_better side q p || (nat_eq q p && nat_lt t s)) ≡ true
prior-later Buy p s q t earlier h = grind (arith, nat_tests)
prior-later Sell p s q t earlier h = grind (arith, nat_tests)

-- an order of its side, which is later where their prices are one
pub record Later (o x : Order) : Type 0 where
  pub side : o.side ≡ x.side
  pub stamp : o.price ≡ x.price → o.stamp < x.stamp

-- an order that isn't ahead of a later one of its side stands behind it
ahead-later : (a b : Order) → Later a b → ahead a b ≡ false → ahead b a ≡ true
ahead-later a b later h =
    ap (λ s. is_better s b.price a.price || (nat_eq b.price a.price && nat_lt b.stamp a.stamp)) (sym later.side)
    ∙ prior-later a.side a.price a.stamp b.price b.stamp later.stamp h

insert-in_order : (o : Order) (xs : List Order) → AllByRecursion (Later o) xs → Pairwise Ahead xs
    → Pairwise Ahead (insert_by_priority o xs)
insert-in_order o [] later pairs = (tt, tt)
insert-in_order o (x ∷ xs) later pairs = elim (ahead o x) as (λ b. ahead o x ≡ b
    → Pairwise Ahead (if b then o ∷ x ∷ xs else x ∷ insert_by_priority o xs)) [
      | true ↦ λ h. (
        (
          h,
          each-map (λ y. Later o y × Ahead x y) (Ahead o) (λ y l.
              let leads : Leads o y = leads-trans o x y later.0.side (sym later.0.side ∙ l.0.side) h l.1 in
              leads.ahead_of) xs
              (each-both (Later o) (Ahead x) xs later.1 pairs.0),
        ),
        pairs,
      )
      | false ↦ λ h. (
        each-insert (Ahead x) o xs (ahead-later o x later.0 h) pairs.0,
        insert-in_order o xs later.1 pairs.1,
      )
    ] refl

pub in_order : (xs : List Order) → Pairwise Later xs → Pairwise Ahead (by_priority xs)
in_order [] pairs = tt
in_order (x ∷ xs) pairs = insert-in_order x (by_priority xs) (each-by_priority (Later x) xs pairs.0)
    (in_order xs pairs.1)

-- orders of one side with rising stamps
rising-later : (side : Side) (xs : List Order) → Rising xs → AllByRecursion (IsOf side) xs → Pairwise Later xs
rising-later side [] rising sides = tt
rising-later side (x ∷ xs) rising sides = (
  each-map (λ y. (x.stamp < y.stamp) × IsOf side y) (Later x)
      (λ y h. record { side = sides.0 ∙ sym h.1; stamp = λ same. h.0 }) xs
      (each-both (λ y. x.stamp < y.stamp) (IsOf side) xs rising.0 sides.1),
  rising-later side xs rising.1 sides.1,
)

-- the orders that get something in a match stand in the order of priority
pub filled-in_order : (i : Order) (orders : List Order) (q : ℕ) → Rising orders
    → Pairwise (λ a b. ahead a b ≡ true) (filled_orders q (crossing i orders))
filled-in_order i orders q rising =
    let gets : Order → Bool = λ o. nat_lt 0 (fill q (crossing i orders) o) in
    in_order (filter gets (crossing i orders)) (rising-later (opposite i.side) (filter gets (crossing i orders))
    (rising-filter gets (crossing i orders) (rising-filter (crosses i) orders rising))
    (each-filter (IsOf (opposite i.side)) gets (crossing i orders)
    (each-passes (IsOf (opposite i.side)) (crosses i) orders
    (each-of (λ x. crosses i x ≡ true → IsOf (opposite i.side) x) (crossed-side i) orders))))

-- and they are all that get something
pub insert-same : (o : Order) (xs : List Order) → IsPermutation (o ∷ xs) (insert_by_priority o xs)
insert-same o [] = IsPermutation-refl (o ∷ [])
insert-same o (x ∷ xs) = elim (ahead o x) as (λ b. IsPermutation (o ∷ x ∷ xs)
    (if b then o ∷ x ∷ xs else x ∷ insert_by_priority o xs)) [
      | true ↦ IsPermutation-refl (o ∷ x ∷ xs)
      | false ↦ IsPermutation-trans (o ∷ x ∷ xs) (x ∷ o ∷ xs) (x ∷ insert_by_priority o xs)
          (IsPermutation-sym (x ∷ o ∷ xs) (o ∷ x ∷ xs) (IsPermutation-middle (x ∷ []) o xs))
          (IsPermutation-cons x (o ∷ xs) (insert_by_priority o xs) (insert-same o xs))
    ]

by_priority-same : (xs : List Order) → IsPermutation xs (by_priority xs)
by_priority-same [] = IsPermutation-refl []
by_priority-same (x ∷ xs) = IsPermutation-trans (x ∷ xs) (x ∷ by_priority xs) (insert_by_priority x (by_priority xs))
    (IsPermutation-cons x xs (by_priority xs) (by_priority-same xs)) (insert-same x (by_priority xs))

pub filled-same : (q : ℕ) (queue : List Order) → IsPermutation (filter (λ o. nat_lt 0 (fill q queue o)) queue)
    (filled_orders q queue)
filled-same q queue = by_priority-same (filter (λ o. nat_lt 0 (fill q queue o)) queue)
