-- The orders of one symbol and side, one by one.
use Rattle.std.specs.Prelude.{◌≡◌, ℕ, Bool, true, false, ◌&&◌, List, ◌∷◌, ◌++◌}
use Rattle.std.specs.List.{AllByRecursion}
use Rattle.std.specs.Str.{bytes_eq}
use Rattle.venue_model.specs.declared.orders.Order.{Order}
use Rattle.venue_model.specs.declared.orders.Side.{Side}
use Rattle.venue_model.specs.Orders.{same_side, ahead}

-- an order of this symbol and side
abbrev pub is_of : List ℕ → Side → Order → Bool
is_of symbol side o = bytes_eq o.symbol symbol && same_side o.side side

-- none of them is
abbrev pub NoneQueuedOf : List ℕ → Side → List Order → Type 0
NoneQueuedOf symbol side orders = AllByRecursion (λ x. is_of symbol side x ≡ false) orders

-- it is one of the orders, and none of its symbol and side stands ahead of it
pub record IsFirst (symbol : List ℕ) (side : Side) (orders : List Order) (o : Order) : Type 0 where
  pub before : List Order
  pub behind : List Order
  pub split : orders ≡ before ++ o ∷ behind
  pub its : is_of symbol side o ≡ true
  pub first : AllByRecursion (λ x. is_of symbol side x ≡ true → ahead x o ≡ false) orders

-- none of its symbol and side stands behind it
abbrev pub NoneQueuedBehind : List Order → Order → Type 0
NoneQueuedBehind orders o = AllByRecursion (λ x. is_of o.symbol o.side x ≡ true → ahead o x ≡ false) orders

-- it is one of the orders and stands behind the first one; of those that do, none stands ahead of it
pub record IsQueuedNext (orders : List Order) (o next : Order) : Type 0 where
  pub before : List Order
  pub behind : List Order
  pub split : orders ≡ before ++ next ∷ behind
  pub its : is_of o.symbol o.side next ≡ true
  pub stands_behind : ahead o next ≡ true
  pub first : AllByRecursion (λ x. is_of o.symbol o.side x ≡ true → ahead o x ≡ true → ahead x next ≡ false) orders
