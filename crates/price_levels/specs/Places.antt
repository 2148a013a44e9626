-- What contracts see of the levels: a list of places, each with an order or free; and what the calls say of it.
use Rattle.std.specs.Prelude.{◌≡◌, ◌≢◌, ℕ, ◌+◌, ◌*◌, ◌^◌, ◌<◌, ◌≤◌, Bool, true, false, ◌&&◌, nat_eq, List, [], ◌∷◌, Option, Some, None, MatchOption, get_or, sum_by, filter, option_map, slice_set}
use Rattle.std.specs.Str.{bytes_eq}
use Rattle.venue_model.specs.declared.orders.Side.{Side}
use Rattle.venue_model.specs.declared.orders.Order.{Order}
use Rattle.venue_model.specs.Orders.{leaves, meets, same_side, ahead}
use Rattle.venue_model.specs.Match.{filled}

-- the places in their order: a free one holds None
abbrev pub Places : Type 0
Places = List (Option Order)

-- what stands at a place; beyond the last one nothing does
abbrev pub at : Places → ℕ → Option Order
at places p = get_or places p None

-- this order stands at this place
abbrev pub StandsAt : Places → ℕ → Order → Type 0
StandsAt places p o = at places p ≡ Some o

-- the orders that stand, in the order of their places
abbrev pub standing : Places → List Order
standing [] = []
standing (None ∷ places) = standing places
standing (Some o ∷ places) = o ∷ standing places

-- an order of this symbol and side
pub record IsOf (symbol : List ℕ) (side : Side) (o : Order) : Type 0 where
  pub symbol_is : o.symbol ≡ symbol
  pub side_is : o.side ≡ side

-- both rest in one level: symbol, side and price are the same
pub record InOneLevel (o x : Order) : Type 0 where
  pub symbol : x.symbol ≡ o.symbol
  pub side : x.side ≡ o.side
  pub price : x.price ≡ o.price

-- an order that may rest behind the others of its level: all of these came before it
abbrev pub ComesLater : Places → Order → Type 0
ComesLater places o = (p : ℕ) (x : Order) → StandsAt places p x → InOneLevel o x → x.stamp < o.stamp

-- it stands ahead of the other, and not the other way round
pub record Leads (o x : Order) : Type 0 where
  pub ahead_of : ahead o x ≡ true
  pub not_behind : ahead x o ≡ false

-- no order of this symbol and side stands
abbrev pub NoneOf : List ℕ → Side → Places → Type 0
NoneOf symbol side places = (p : ℕ) (x : Order) → StandsAt places p x → IsOf symbol side x → ⊥

-- at this place stands the order of the symbol and side that is ahead of all others
pub record BestOf (symbol : List ℕ) (side : Side) (places : Places) (p : ℕ) : Type 0 where
  pub order : Order
  pub stands : StandsAt places p order
  pub is_of : IsOf symbol side order
  pub leads : (q : ℕ) (x : Order) → q ≢ p → StandsAt places q x → IsOf symbol side x → Leads order x

-- the same, with its price
pub record PricedBest (symbol : List ℕ) (side : Side) (places : Places) (p price : ℕ) : Type 0 where
  pub best : BestOf symbol side places p
  pub price_is : best.order.price ≡ price

-- an order behind this one: of its symbol and side, and this one is ahead of it
pub record StandsBehind (o x : Order) : Type 0 where
  pub is_of : IsOf o.symbol o.side x
  pub ahead : ahead o x ≡ true

-- none stands behind the order of this place
abbrev pub NoneBehind : Places → ℕ → Type 0
NoneBehind places p = (o : Order) → StandsAt places p o → (q : ℕ) (x : Order) → StandsAt places q x → StandsBehind o x → ⊥

-- of those behind the order of the first place, the one at the second is ahead of all others
pub record NextBehind (places : Places) (p q : ℕ) : Type 0 where
  pub order : Order
  pub next : Order
  pub stands : StandsAt places p order
  pub next_stands : StandsAt places q next
  pub behind : StandsBehind order next
  pub leads : (r : ℕ) (x : Order) → r ≢ q → StandsAt places r x → StandsBehind order x → Leads next x

-- a fill at its own price that leaves something of the order; what it has cost fits
pub record LeavesSome (quantity : ℕ) (o : Order) : Type 0 where
  pub some : o.cum + quantity < o.total
  pub fits : o.notional + quantity * o.price < 2 ^ 64

-- the order after it
abbrev pub reduced : ℕ → Order → Order
reduced quantity o = filled o quantity o.price

-- a total that is no more than the order's, and more than what was filled
pub record CanAmend (total : ℕ) (o : Order) : Type 0 where
  pub no_more : total ≤ o.total
  pub some : o.cum < total

-- the order under its new name, with its new total
abbrev pub renamed_to : ℕ → ℕ → Order → Order
renamed_to name total o = record o { cl_ord_id = name; total = total }

-- an order stands at the place, and this holds of it
abbrev pub HoldsAt : Places → ℕ → (Order → Type 0) → Type 0
HoldsAt places p P = MatchOption (at places p) ⊥ P

-- the places with the order of one of them changed
abbrev pub changed : (Order → Order) → Places → ℕ → Places
changed f places p = slice_set places p (option_map f (at places p))

-- what an order of this symbol, side and price would cross
abbrev pub crosses_at : List ℕ → Side → ℕ → Order → Bool
crosses_at symbol side price o = bytes_eq symbol o.symbol && meets side price o.side o.price

-- what all orders that it would cross have left
abbrev pub crossing_leaves : List ℕ → Side → ℕ → Places → ℕ
crossing_leaves symbol side price places = sum_by leaves (filter (crosses_at symbol side price) (standing places))

-- an order of this symbol, side and price
abbrev pub rests_at : List ℕ → Side → ℕ → Order → Bool
rests_at symbol side price o = bytes_eq o.symbol symbol && (same_side o.side side && nat_eq o.price price)
