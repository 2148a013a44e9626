-- One fill of a match: which order comes first, and what is left of both sides behind it.
use Rattle.std.specs.Prelude.{◌≡◌, ◌⊎◌, List, [], ◌∷◌, ◌++◌}
use Rattle.venue_model.specs.declared.orders.Order.{Order}
use Rattle.venue_model.specs.declared.outputs.Cause.{Cause}
use Rattle.venue_model.specs.declared.outputs.ExecType.TheVariants.{Trade}
use Rattle.venue_model.specs.declared.outputs.Output.{Output}
pub use Rattle.price_levels.specs.Places.{Leads}
pub use Rattle.book.specs.Firsts.{NoneCrossed, First, traded, resting_after, orders_after}
use Rattle.venue_model.specs.Orders.{leaves}
use Rattle.venue_model.specs.Match.{filled, exec, rest, done, trades}

-- the incoming order after the trade, at the resting order's price
abbrev pub incoming_after : Order → Order → Order
incoming_after incoming o = filled incoming (traded incoming o) o.price

-- the two reports of the trade
abbrev pub reports : Cause → Order → Order → List Output
reports c incoming o =
    exec c (Trade (traded incoming o) o.price) (resting_after incoming o)
    ∷ exec c (Trade (traded incoming o) o.price) (incoming_after incoming o)
    ∷ []

-- where a match is: what is left of the incoming order, the resting orders, and what is told
pub record Matching : Type 0 where
  pub incoming : Order
  pub orders : List Order
  pub told : List Output

abbrev pub matching : Order → List Order → List Output → Matching
matching incoming orders told = record { incoming = incoming; orders = orders; told = told }

-- A part of a match is over: what it has told, and what the definitions say of the orders as they are now, is what they
-- said before it.
pub record Passed (c : Cause) (old new : Matching) : Type 0 where
  pub left : rest old.incoming old.orders ≡ rest new.incoming new.orders
  pub filled : done old.incoming old.orders ≡ done new.incoming new.orders
  pub said : old.told ++ trades c old.incoming old.orders ≡ new.told ++ trades c new.incoming new.orders

-- the match is over: nothing is left of the incoming order, or it crosses none
abbrev pub Over : Order → List Order → Type 0
Over incoming orders = (leaves incoming ≡ 0) ⊎ NoneCrossed incoming orders
