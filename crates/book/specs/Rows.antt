-- Numbers in bytes, and the row of a resting order in a snapshot (docs/JOURNAL.md, "The bytes of a snapshot").
use Rattle.std.specs.Prelude.{ℕ, List, ◌++◌}
use Rattle.std.specs.List.{flat_map}
use Rattle.std.specs.Int.{bytes_high_first}
use Rattle.venue_model.specs.declared.orders.Order.{Order}
use Rattle.venue_model.specs.declared.orders.Side.{Side}
use Rattle.venue_model.specs.declared.orders.Side.TheVariants.{Buy, Sell}
use Rattle.venue_model.specs.Requests.{Symbols}
use Rattle.book.specs.declared.snapshot.row.Row.{Row}
use Rattle.book.specs.Next.{symbol_number}

-- a number in so many bytes, the highest of them first
unfoldable pub number_bytes : ℕ → ℕ → List ℕ
number_bytes count n = bytes_high_first count n

-- Side (54) as a byte of a row
abbrev pub side_byte : Side → ℕ
side_byte Buy = 1
side_byte Sell = 2

-- an order's numbers; its symbol is told by the place in the venue's table, from 0
abbrev pub row_of : Symbols → Order → Row
row_of symbols o = record {
  id = o.id;
  client = o.client;
  cl_ord_id = o.cl_ord_id;
  symbol = symbol_number symbols o.symbol;
  side = side_byte o.side;
  price = o.price;
  total = o.total;
  cum = o.cum;
  notional = o.notional;
  stamp = o.stamp;
}

-- 47 bytes
unfoldable pub row_bytes : Row → List ℕ
row_bytes r =
    number_bytes 8 r.id ++ number_bytes 1 r.client ++ number_bytes 8 r.cl_ord_id
    ++ number_bytes 1 r.symbol ++ number_bytes 1 r.side
    ++ number_bytes 4 r.price ++ number_bytes 4 r.total ++ number_bytes 4 r.cum
    ++ number_bytes 8 r.notional ++ number_bytes 8 r.stamp

-- the rows of orders, one behind the other
abbrev pub orders_bytes : Symbols → List Order → List ℕ
orders_bytes symbols orders = flat_map (λ o. row_bytes (row_of symbols o)) orders
