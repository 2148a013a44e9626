-- The resting orders in one list, as `Book::after` gives them one by one.
use Rattle.std.specs.Prelude.{ℕ, List, ◌++◌, filter}
use Rattle.std.specs.List.{flat_map}
use Rattle.venue_model.specs.declared.orders.Side.{Side}
use Rattle.venue_model.specs.declared.orders.Side.TheVariants.{Buy, Sell}
use Rattle.venue_model.specs.declared.orders.Order.{Order}
use Rattle.venue_model.specs.Match.{by_priority}
use Rattle.venue_model.specs.Requests.{Symbols}
pub use Rattle.book.specs.Queues.{is_of}

-- the orders of a symbol and a side, each ahead of the next
abbrev pub queue : List ℕ → Side → List Order → List Order
queue symbol side orders = by_priority (filter (is_of symbol side) orders)

-- all orders: by symbol in the order of the table, buys before sells, each ahead of the next
abbrev pub listing : Symbols → List Order → List Order
listing symbols orders = flat_map (λ symbol. queue symbol Buy orders ++ queue symbol Sell orders) symbols
