-- What the bytes of a snapshot spell, part by part: the numbers in front, and the row of one order after another.
use Rattle.std.specs.Prelude.{◌≡◌, ◌≢◌, ℕ, ◌+◌, ◌*◌, ◌<◌, ◌^◌, ◌≤◌, true, List, length, take, Option}
use Rattle.std.specs.List.{AllByRecursion}
use Rattle.std.specs.List.Sorted.{IsPermutation}
use Rattle.venue_model.specs.declared.orders.Order.{Order}
use Rattle.venue_model.specs.Requests.{Symbols}
use Rattle.price_levels.specs.Stamps.{InStamps}
use Rattle.book.specs.declared.snapshot.head.Head.{Head}
use Rattle.book.specs.declared.snapshot.row.Row.{Row}
use Rattle.book.specs.Books.{NamedApart}
use Rattle.book.specs.Next.{comes_behind}
use Rattle.book.specs.Rows.{orders_bytes}
use Rattle.book.specs.Snapshots.{CountsFit, HasRanges, AreListed, head_bytes}
use Rattle.book.specs.Standing.{NoneNamed, InTime}

-- the 82 bytes in front
abbrev pub bytes_of_head : Head → List ℕ
bytes_of_head h = head_bytes h.commands h.outputs h.greatest h.resting

-- each number in front of a snapshot fits its bytes
pub record FitsBytes (h : Head) : Type 0 where
  pub commands : h.commands < 2 ^ 64
  pub outputs : h.outputs < 2 ^ 64
  pub clients : length h.greatest ≡ 8
  pub names : AllByRecursion (λ n. n < 2 ^ 64) h.greatest
  pub resting : h.resting < 2 ^ 16

-- the numbers in front fit one another, and a snapshot of so many bytes
pub record FitsHead (h : Head) (size : ℕ) : Type 0 where
  pub counts : CountsFit h.commands h.outputs h.resting
  pub names : AllByRecursion (λ name. name ≤ 999999999999999) h.greatest
  pub long : size ≡ 82 + 47 * h.resting

-- the bytes begin with these numbers, which fit, and a row for each order follows
pub record SpellsHead (bytes : List ℕ) (h : Head) : Type 0 where
  pub spelled : take 82 bytes ≡ bytes_of_head h
  pub clients : length h.greatest ≡ 8
  pub fits : FitsHead h (length bytes)

-- each number of a row fits its bytes
pub record FitsRow (r : Row) : Type 0 where
  pub id : r.id < 2 ^ 64
  pub client : r.client < 2 ^ 8
  pub cl_ord_id : r.cl_ord_id < 2 ^ 64
  pub symbol : r.symbol < 2 ^ 8
  pub side : r.side < 2 ^ 8
  pub price : r.price < 2 ^ 32
  pub total : r.total < 2 ^ 32
  pub cum : r.cum < 2 ^ 32
  pub notional : r.notional < 2 ^ 64
  pub stamp : r.stamp < 2 ^ 64

-- An order can be the next one of a list: its numbers are in range, it comes behind the last one, and its client has
-- none under its name among those before it.
pub record CanCome (symbols : Symbols) (greatest : List ℕ) (commands : ℕ) (last : Option Order) (orders : List Order)
    (o : Order) : Type 0 where
  pub ranges : HasRanges symbols greatest commands o
  pub behind : comes_behind symbols last o ≡ true
  pub fresh : NoneNamed o.client o.cl_ord_id orders

-- the rows spell these orders, in the order of their stamps
pub record Restores (symbols : Symbols) (greatest : List ℕ) (commands : ℕ) (rows : List ℕ)
    (orders : List Order) : Type 0 where
  pub listed : List Order
  pub spelled : rows ≡ orders_bytes symbols listed
  pub are : AreListed symbols greatest commands listed
  pub same : IsPermutation orders listed
  pub stamps : InStamps orders
  pub in_time : InTime orders
  pub apart : NamedApart orders

-- the rows spell no orders that could be listed
abbrev pub SpellsNone : Symbols → List ℕ → ℕ → List ℕ → Type 0
SpellsNone symbols greatest commands rows =
    (listed : List Order) → AreListed symbols greatest commands listed → rows ≢ orders_bytes symbols listed
