-- Which order is listed next: of those behind one, the one that comes before all others.
use Rattle.std.specs.Prelude.{◌≡◌, ◌≤◌, ◌<◌, ℕ, ◌+◌, ◌*◌, nat_eq, nat_lt, Bool, true, false, ◌&&◌, ◌||◌, List, MatchOption, Option, Some, None}
use Rattle.std.specs.List.{AllByRecursion, Contains, list_any, position_or_len}
use Rattle.std.specs.Str.{bytes_eq}
use Rattle.venue_model.specs.declared.orders.Side.{Side}
use Rattle.venue_model.specs.declared.orders.Side.TheVariants.{Buy, Sell}
use Rattle.venue_model.specs.declared.orders.Order.{Order}
use Rattle.venue_model.specs.Orders.{ahead}
use Rattle.venue_model.specs.Requests.{Symbols}

-- the number of a symbol: its place in the table, or the table's length
abbrev pub symbol_number : Symbols → List ℕ → ℕ
symbol_number symbols symbol = position_or_len (bytes_eq symbol) symbols

-- buys come before sells
abbrev pub side_order : Side → ℕ
side_order Buy = 0
side_order Sell = 1

-- the orders of one symbol and side are a group; groups are numbered in the order of the table, buys before sells
abbrev pub group_of : Symbols → Order → ℕ
group_of symbols o = 2 * symbol_number symbols o.symbol + side_order o.side

-- an order is listed before another: in an earlier group, or ahead of it in one
abbrev pub comes_before : Symbols → Order → Order → Bool
comes_before symbols a b =
    nat_lt (group_of symbols a) (group_of symbols b) || (nat_eq (group_of symbols a) (group_of symbols b) && ahead a b)

-- it comes behind this order, if there is one
abbrev pub comes_behind : Symbols → Option Order → Order → Bool
comes_behind symbols None x = true
comes_behind symbols (Some o) x = comes_before symbols o x

-- each is an order of a symbol of the table
abbrev pub InTable : Symbols → List Order → Type 0
InTable symbols orders = AllByRecursion (λ o. list_any (bytes_eq o.symbol) symbols ≡ true) orders

-- one of the orders, behind the one asked for; and none that is behind it too comes before this one
pub record IsListedNext (symbols : Symbols) (from : Option Order) (orders : List Order) (o : Order) : Type 0 where
  pub there : Contains orders o
  pub behind : comes_behind symbols from o ≡ true
  pub first : AllByRecursion (λ x. comes_behind symbols from x ≡ true → comes_before symbols x o ≡ false) orders

-- the next order, if one comes behind
abbrev pub NextOf : Symbols → Option Order → List Order → Option Order → Type 0
NextOf symbols from orders next =
    MatchOption next
    (AllByRecursion (λ x. comes_behind symbols from x ≡ false) orders)
    (IsListedNext symbols from orders)

-- one of the orders, of this group or a later one; and none of those comes before it
pub record IsFirstFrom (symbols : Symbols) (group : ℕ) (orders : List Order) (o : Order) : Type 0 where
  pub there : Contains orders o
  pub its : group ≤ group_of symbols o
  pub first : AllByRecursion (λ x. group ≤ group_of symbols x → comes_before symbols x o ≡ false) orders

-- the first order of this group and the later ones, if there is one
abbrev pub FirstFrom : Symbols → ℕ → List Order → Option Order → Type 0
FirstFrom symbols group orders first =
    MatchOption first
    (AllByRecursion (λ x. group_of symbols x < group) orders)
    (IsFirstFrom symbols group orders)
