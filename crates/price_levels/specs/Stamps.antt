-- The orders that stand, in the order of their stamps: how a book sees places as one list.
use Rattle.std.specs.Prelude.{◌≡◌, ⊤, ℕ, ◌≤◌, nat_lt, List, [], ◌∷◌, ◌++◌, Some, None, slice_set, if◌then◌else◌}
use Rattle.std.specs.List.{AllByRecursion}
use Rattle.venue_model.specs.declared.orders.Order.{Order}
use Rattle.price_levels.specs.Places.{Places}

-- an order put into a list that stands in the order of stamps
abbrev pub insert_by_stamp : Order → List Order → List Order
insert_by_stamp o [] = o ∷ []
insert_by_stamp o (x ∷ xs) = if nat_lt o.stamp x.stamp then o ∷ x ∷ xs else x ∷ insert_by_stamp o xs

-- all orders that stand, none with a later stamp than the next; those of one stamp stand in the order of their places
abbrev pub by_stamp : Places → List Order
by_stamp [] = []
by_stamp (None ∷ places) = by_stamp places
by_stamp (Some o ∷ places) = insert_by_stamp o (by_stamp places)

-- where the order of a place stands in the list: the list without it, and with another of its stamp in its place
pub record SeatedByStamp (places : Places) (p : ℕ) (o : Order) : Type 0 where
  pub before : List Order
  pub behind : List Order
  pub split : by_stamp places ≡ before ++ o ∷ behind
  pub without : by_stamp (slice_set places p None) ≡ before ++ behind
  pub changed : (y : Order) → y.stamp ≡ o.stamp → by_stamp (slice_set places p (Some y)) ≡ before ++ y ∷ behind

-- no stamp is above those behind it
abbrev pub InStamps : List Order → Type 0
InStamps [] = ⊤
InStamps (o ∷ os) = AllByRecursion (λ x. o.stamp ≤ x.stamp) os × InStamps os

-- an order comes into a list: none behind it has an earlier stamp, and all others stay as they are
pub record Comes (o : Order) (old new : List Order) : Type 0 where
  pub before : List Order
  pub behind : List Order
  pub split : old ≡ before ++ behind
  pub put : new ≡ before ++ o ∷ behind
  pub later : AllByRecursion (λ x. o.stamp ≤ x.stamp) behind
