-- The resting orders as the book keeps them: one list, in the order of their stamps; and what holds of each.
use Rattle.std.specs.Prelude.{◌≡◌, ⊤, ℕ, ◌*◌, ◌≤◌, ◌<◌, false, List, [], ◌∷◌, length}
use Rattle.std.specs.List.{AllByRecursion}
use Rattle.venue_model.specs.declared.orders.Order.{Order}
use Rattle.venue_model.specs.Requests.{is_named, most_resting}
use Rattle.price_levels.specs.Places.{InOneLevel}

-- an order whose numbers are in the ranges of the venue, so that no sum of its fills passes 10 ^ 12
pub record InRange (o : Order) : Type 0 where
  pub cum : o.cum ≤ o.total
  pub total : o.total ≤ 1000000
  pub price : o.price ≤ 1000000
  pub notional : o.notional ≤ o.cum * 1000000

-- an order that rests: something is left of it, and it has a price
pub record Rests (o : Order) : Type 0 where
  pub live : o.cum < o.total
  pub limit : o.is_market ≡ false
  pub in_range : InRange o

-- all stamps are below a sequence
abbrev pub Below : ℕ → List Order → Type 0
Below sequence orders = AllByRecursion (λ x. x.stamp < sequence) orders

-- none is the client's order of this name
abbrev pub NoneNamed : ℕ → ℕ → List Order → Type 0
NoneNamed client name orders = AllByRecursion (λ x. is_named client name x ≡ false) orders

-- each stamp is below those behind it
abbrev pub Rising : List Order → Type 0
Rising [] = ⊤
Rising (o ∷ os) = AllByRecursion (λ x. o.stamp < x.stamp) os × Rising os

-- it holds of each order and each later one
abbrev pub Pairwise : (Order → Order → Type 0) → List Order → Type 0
Pairwise R [] = ⊤
Pairwise R (o ∷ os) = AllByRecursion (R o) os × Pairwise R os

-- where both rest in one level, the first has the earlier stamp
abbrev pub IsEarlier : Order → Order → Type 0
IsEarlier o x = InOneLevel o x → o.stamp < x.stamp

-- Within a price level each stamp is below those behind it. Orders at different prices, of different symbols or of two
-- sides may have one stamp: a book may begin with such.
abbrev pub InTime : List Order → Type 0
InTime orders = Pairwise IsEarlier orders

-- the order may rest behind the others of its level: all of these came before it
abbrev pub BehindLevel : Order → List Order → Type 0
BehindLevel o orders = AllByRecursion (λ x. InOneLevel o x → x.stamp < o.stamp) orders

-- the book's list
pub record IsBookList (orders : List Order) : Type 0 where
  pub in_time : InTime orders
  pub each : AllByRecursion Rests orders
  pub few : length orders ≤ most_resting
