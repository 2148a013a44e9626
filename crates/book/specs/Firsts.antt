-- The order that an incoming one fills first, and the fill.
use Rattle.std.specs.Prelude.{◌≡◌, ℕ, min, true, false, List, ◌∷◌, ◌++◌}
use Rattle.std.specs.List.{AllByRecursion}
use Rattle.venue_model.specs.declared.orders.Order.{Order}
use Rattle.venue_model.specs.Orders.{leaves, crosses}
use Rattle.venue_model.specs.Match.{filled, live_alone}
use Rattle.price_levels.specs.Places.{Leads}

-- none of them is crossed
abbrev pub NoneCrossed : Order → List Order → Type 0
NoneCrossed incoming orders = AllByRecursion (λ x. crosses incoming x ≡ false) orders

-- of these orders, the incoming one fills this one first: all others that it crosses stand behind
pub record First (incoming o : Order) (before behind : List Order) : Type 0 where
  pub is_crossed : crosses incoming o ≡ true
  pub leads_before : AllByRecursion (λ x. crosses incoming x ≡ true → Leads o x) before
  pub leads_behind : AllByRecursion (λ x. crosses incoming x ≡ true → Leads o x) behind

-- how much they trade
abbrev pub traded : Order → Order → ℕ
traded incoming o = min (leaves o) (leaves incoming)

-- the resting order after the trade, at its own price
abbrev pub resting_after : Order → Order → Order
resting_after incoming o = filled o (traded incoming o) o.price

-- the resting orders after the trade: where nothing is left of it, the order is gone
abbrev pub orders_after : Order → Order → List Order → List Order → List Order
orders_after incoming o before behind = before ++ (live_alone (resting_after incoming o) ++ behind)

-- the first of the orders that it crosses is filled, as far as both go
pub record FillsFirst (incoming : Order) (old new : List Order) (o : Order) : Type 0 where
  pub before : List Order
  pub behind : List Order
  pub split : old ≡ before ++ o ∷ behind
  pub first : First incoming o before behind
  pub after : new ≡ orders_after incoming o before behind

-- it crosses none, and nothing changes
pub record FillsNone (incoming : Order) (old new : List Order) : Type 0 where
  pub none : NoneCrossed incoming old
  pub same : new ≡ old
