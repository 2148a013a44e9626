-- What rests at a price, counted at places and in the list by stamps.
use Rattle.std.proofs.Common.{◌≡◌, ℕ, ◌+◌, Bool, true, false, List, [], ◌∷◌, length, Some, None, refl, ap, sym, ◌∙◌}
use Rattle.std.proofs.Common.{arith}
use Rattle.std.specs.Prelude.{nat_lt, filter, sum_by, if◌then◌else◌}
use Rattle.venue_model.specs.declared.orders.Side.{Side}
use Rattle.venue_model.specs.declared.orders.Order.{Order}
use Rattle.venue_model.specs.Orders.{leaves}
use Rattle.price_levels.specs.declared.levels.Depth.{Depth}
use Rattle.price_levels.specs.Places.{Places, standing, rests_at}
use Rattle.price_levels.specs.Stamps.{insert_by_stamp, by_stamp}
use Rattle.price_levels.specs.StampLaws.{left-listed}
use Rattle.book.specs.Depths.{at_price, depth_at}

module _ (t : Order → Bool) where
  abbrev some : List Order → ℕ
  some xs = length (filter t xs)

  some-cons : (x : Order) (xs : List Order) → some (x ∷ xs) ≡ (if t x then 1 else 0) + some xs
  some-cons x xs = elim (t x) as (λ b. length (if b then x ∷ filter t xs else filter t xs)
      ≡ (if b then 1 else 0) + some xs)
      [ true ↦ omega arith | false ↦ omega arith ]

  some-put : (o : Order) (xs : List Order) → some (insert_by_stamp o xs) ≡ (if t o then 1 else 0) + some xs
  some-put o [] = some-cons o []
  some-put o (x ∷ xs) = elim (nat_lt o.stamp x.stamp) as (λ b. some
      (if b then o ∷ x ∷ xs else x ∷ insert_by_stamp o xs) ≡ (if t o then 1 else 0) + some (x ∷ xs)) [
        | true ↦ some-cons o (x ∷ xs)
        | false ↦
            let rest = some-put o xs in
            let with = some-cons x (insert_by_stamp o xs) in
            let before = some-cons x xs in
            omega (arith, rest, with, before)
      ]

  -- as many pass a test in either order
  some-listed : (places : Places) → length (filter t (by_stamp places)) ≡ length (filter t (standing places))
  some-listed [] = refl
  some-listed (None ∷ places) = some-listed places
  some-listed (Some o ∷ places) =
      let rest = some-listed places in
      let put = some-put o (by_stamp places) in
      let cons = some-cons o (standing places) in
      omega (arith, rest, put, cons)

depth-made : (d : Depth) (quantity orders : ℕ) → d.quantity ≡ quantity → d.orders ≡ orders
    → d ≡ record { quantity = quantity; orders = orders }
depth-made d quantity orders q n =
    ap (λ (x : ℕ). let e : Depth = record { quantity = x; orders = d.orders } in e) q
    ∙ ap (λ (x : ℕ). let e : Depth = record { quantity = quantity; orders = x } in e) n

-- as the levels answer, so it is in the list
pub depth-listed : (symbol : List ℕ) (side : Side) (price : ℕ) (places : Places) (view : List Order) (d : Depth)
    → by_stamp places ≡ view → d.quantity ≡ sum_by leaves (filter (rests_at symbol side price) (standing places))
    → d.orders ≡ length (filter (rests_at symbol side price) (standing places)) → d ≡ depth_at symbol side price view
depth-listed symbol side price places view d list quantity orders =
    let its : Order → Bool = rests_at symbol side price in
    depth-made d (sum_by leaves (at_price symbol side price view)) (length (at_price symbol side price view))
    (quantity ∙ sym (left-listed its places) ∙ ap (λ (os : List Order). sum_by leaves (filter its os)) list)
    (orders ∙ sym (some-listed its places) ∙ ap (λ (os : List Order). length (filter its os)) list)
