-- Resting orders: what is left of one, which cross, and which stands ahead of which
-- (docs/PROFILE.md, "Matching").
use Rattle.std.specs.Prelude.{ℕ, ◌-◌, Bool, true, false, ◌&&◌, ◌||◌, nat_eq, nat_lt, nat_le}
use Rattle.std.specs.Str.{bytes_eq}
use Rattle.venue_model.specs.declared.orders.Side.{Side}
use Rattle.venue_model.specs.declared.orders.Side.TheVariants.{Buy, Sell}
use Rattle.venue_model.specs.declared.orders.Order.{Order}
use Rattle.venue_model.specs.declared.commands.OrdType.{OrdType}
use Rattle.venue_model.specs.declared.commands.OrdType.TheVariants.{Market, Limit}

-- LeavesQty (151): what is left to fill
abbrev pub leaves : Order → ℕ
leaves o = o.total - o.cum

-- something is left
abbrev pub is_live : Order → Bool
is_live o = nat_lt 0 (leaves o)

-- the other side
abbrev pub opposite : Side → Side
opposite Buy = Sell
opposite Sell = Buy

abbrev pub same_side : Side → Side → Bool
same_side Buy Buy = true
same_side Sell Sell = true
same_side Buy Sell = false
same_side Sell Buy = false

-- an order of this side and price accepts the price of one of the other side
abbrev pub meets : Side → ℕ → Side → ℕ → Bool
meets Buy p Sell q = nat_le q p
meets Sell p Buy q = nat_le p q
meets Buy p Buy q = false
meets Sell p Sell q = false

-- an order of this type has no price
abbrev pub is_market : OrdType → Bool
is_market Market = true
is_market (Limit price) = false

-- the price by which an order of this side crosses others: no price of the other side is beyond that of a market order
abbrev pub price_of : Side → OrdType → ℕ
price_of side (Limit price) = price
price_of Buy Market = 1000000
price_of Sell Market = 0

-- a buy crosses the sells of its symbol at its price or below, a sell the buys at its price or above
abbrev pub crosses : Order → Order → Bool
crosses incoming o = bytes_eq incoming.symbol o.symbol && meets incoming.side incoming.price o.side o.price

-- a price that is better for the other side: a higher bid, a lower offer
abbrev pub is_better : Side → ℕ → ℕ → Bool
is_better Buy p q = nat_lt q p
is_better Sell p q = nat_lt p q

-- price-time priority: a better price, or the same price and an earlier stamp
abbrev pub ahead : Order → Order → Bool
ahead a b = is_better a.side a.price b.price || (nat_eq a.price b.price && nat_lt a.stamp b.stamp)
