-- What rests at one price of a symbol and side.
use Rattle.std.specs.Prelude.{ℕ, List, length, filter, sum_by}
use Rattle.venue_model.specs.declared.orders.Side.{Side}
use Rattle.venue_model.specs.declared.orders.Order.{Order}
use Rattle.venue_model.specs.Orders.{leaves}
use Rattle.price_levels.specs.declared.levels.Depth.{Depth}
use Rattle.price_levels.specs.Places.{rests_at}

-- the orders of this symbol, side and price
abbrev pub at_price : List ℕ → Side → ℕ → List Order → List Order
at_price symbol side price orders = filter (rests_at symbol side price) orders

-- what they have left in sum, and how many they are
abbrev pub depth_at : List ℕ → Side → ℕ → List Order → Depth
depth_at symbol side price orders = record {
  quantity = sum_by leaves (at_price symbol side price orders);
  orders = length (at_price symbol side price orders);
}
