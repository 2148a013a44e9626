-- What holds of nodes, free places and levels at any time.
use Rattle.std.specs.Prelude.{◌≡◌, ℕ, ◌+◌, ◌*◌, ◌^◌, ◌<◌, ◌≤◌, Bool, false, zero, suc, nat_eq, nat_lt, ◌&&◌, ◌-◌, List, [], ◌∷◌, ◌++◌, length, map, get_or, take, drop, slice_set, sum_by, count_by, Option, Some, None, option_map, unwrap_or, is_none, ⊤, MatchOption, if◌then◌else◌}
use Rattle.venue_model.specs.declared.orders.Order.{Order}
use Rattle.venue_model.specs.declared.orders.Side.{Side}
use Rattle.std.specs.Str.{bytes_eq}
use Rattle.venue_model.specs.Orders.{leaves, same_side}
use Rattle.price_levels.specs.declared.keys.Key.{Key}
use Rattle.price_levels.specs.declared.keys.Level.{Level}
use Rattle.price_levels.specs.declared.nodes.Node.{Node}
use Rattle.price_levels.specs.Places.{Places, standing}
use Rattle.price_levels.specs.Keys.{key_of, same_key, InOrder, level_of, key_crossed}

-- a free place
abbrev pub vacant : Node
vacant = record { order = None; prev = None; next = None; ladder = 0 }

abbrev pub node_at : List Node → ℕ → Node
node_at nodes p = get_or nodes p vacant

-- what contracts see
abbrev pub places_of : List Node → Places
places_of nodes = map (λ n. n.order) nodes

-- A level's orders stand in a ring: from its end over the first order to the last, and back to its end. A free place is
-- a ring of its own.
pub data Point : Type 0 where
  At : ℕ → Point
  End : Key → Point

-- where a place without an order, or with its neighbour on one side, leads to
abbrev pub leads_to : Option Order → Option ℕ → ℕ → Point
leads_to None neighbour p = At p
leads_to (Some o) None p = End (key_of o)
leads_to (Some o) (Some q) p = At q

-- where the end of a level leads to: itself, if it has no orders
abbrev pub end_to : Option ℕ → Key → Point
end_to None k = End k
end_to (Some p) k = At p

-- the point behind a point, or the one before it, by the orders, their neighbours on that side, and what stands there in each level
abbrev pub point_by : (ℕ → Option Order) → (ℕ → Option ℕ) → (Key → Option ℕ) → Point → Point
point_by order neighbour outmost (At p) = leads_to (order p) (neighbour p) p
point_by order neighbour outmost (End k) = end_to (outmost k) k

-- the level that a point belongs to
abbrev pub key_at : (ℕ → Option Order) → Point → Option Key
key_at order (At p) = option_map key_of (order p)
key_at order (End k) = Some k

-- the rings, by the order at each place and the points behind and before each point: later orders stand behind earlier ones
pub record AreRings (order : ℕ → Option Order) (next prev : Point → Point) : Type 0 where
  pub there : (x : Point) → prev (next x) ≡ x
  pub back : (x : Point) → next (prev x) ≡ x
  pub key : (x : Point) → key_at order (next x) ≡ key_at order x
  pub later : (p q : ℕ) (o x : Order) → next (At p) ≡ At q → order p ≡ Some o → order q ≡ Some x → o.stamp < x.stamp
  pub apart : (p q : ℕ) (o x : Order) → order p ≡ Some o → order q ≡ Some x → key_of x ≡ key_of o → x.stamp ≡ o.stamp → p ≡ q

abbrev pub order_at : List Node → ℕ → Option Order
order_at nodes p = (node_at nodes p).order

abbrev pub first_of : List Level → Key → Option ℕ
first_of levels k = option_map (λ l. l.first) (level_of k levels)

abbrev pub last_of : List Level → Key → Option ℕ
last_of levels k = option_map (λ l. l.last) (level_of k levels)

abbrev pub next_point : List Node → List Level → Point → Point
next_point nodes levels = point_by (order_at nodes) (λ p. (node_at nodes p).next) (first_of levels)

abbrev pub prev_point : List Node → List Level → Point → Point
prev_point nodes levels = point_by (order_at nodes) (λ p. (node_at nodes p).prev) (last_of levels)

-- what an order leaves in the level of a key
abbrev pub left_in : Key → Option Order → ℕ
left_in k None = 0
left_in k (Some o) = if same_key (key_of o) k then leaves o else 0

-- what all orders of a level have left
abbrev pub total_left : Key → Places → ℕ
total_left k places = sum_by (left_in k) places

-- an order counts in the level of a key
abbrev pub one_in : Key → Option Order → ℕ
one_in k None = 0
one_in k (Some o) = if same_key (key_of o) k then 1 else 0

-- how many orders a level has
abbrev pub total_orders : Key → Places → ℕ
total_orders k places = sum_by (one_in k) places

-- what the level of a key says of it
abbrev pub left_of : List Level → Key → ℕ
left_of levels k = unwrap_or (option_map (λ l. l.left) (level_of k levels)) 0

-- how many orders the level of a key says that it has
abbrev pub orders_of : List Level → Key → ℕ
orders_of levels k = unwrap_or (option_map (λ l. l.orders) (level_of k levels)) 0

-- a place among the nodes without an order counts 1, any other number 0
abbrev pub vacancy : List Node → ℕ → ℕ
vacancy nodes p = if nat_lt p (length nodes) && is_none (order_at nodes p) then 1 else 0

-- each free place stands once in the list of them, and no other does; with the orders they make up all places
pub record IsArena (nodes : List Node) (free : List ℕ) : Type 0 where
  pub once : (p : ℕ) → count_by (nat_eq p) free ≡ vacancy nodes p
  pub all : length free + length (standing (places_of nodes)) ≡ length nodes

-- no order has more to fill than the venue takes, and all together fit a sum
pub record InBounds (nodes : List Node) : Type 0 where
  pub each : (p : ℕ) (o : Order) → order_at nodes p ≡ Some o → o.total ≤ 1000000
  pub fits : length nodes * 1000000 < 2 ^ 64

-- the levels of the orders that stand: rings in the order of their stamps, in the order of their keys, with what is left
-- and how many orders they are
pub record AreLevels (nodes : List Node) (levels : List Level) : Type 0 where
  pub bounds : InBounds nodes
  pub rings : AreRings (order_at nodes) (next_point nodes levels) (prev_point nodes levels)
  pub in_order : InOrder levels
  pub left : (k : Key) → left_of levels k ≡ total_left k (places_of nodes)
  pub orders : (k : Key) → orders_of levels k ≡ total_orders k (places_of nodes)

pub record IsLevels (nodes : List Node) (free : List ℕ) (levels : List Level) : Type 0 where
  pub arena : IsArena nodes free
  pub ordered : AreLevels nodes levels

-- what the code does to nodes and levels

-- the neighbour of a place is another now, where there is a place
abbrev pub set_next : List Node → Option ℕ → Option ℕ → List Node
set_next nodes None neighbour = nodes
set_next nodes (Some p) neighbour = slice_set nodes p (record (node_at nodes p) { next = neighbour })

abbrev pub set_prev : List Node → Option ℕ → Option ℕ → List Node
set_prev nodes None neighbour = nodes
set_prev nodes (Some p) neighbour = slice_set nodes p (record (node_at nodes p) { prev = neighbour })

-- an order at a place that was free, behind the last of its level or alone, in a ladder
abbrev pub node_behind : Option ℕ → Order → ℕ → Node
node_behind last o ladder = record { order = Some o; prev = last; next = None; ladder = ladder }

-- the nodes when it stands there
abbrev pub nodes_with : List Node → Option ℕ → ℕ → Order → ℕ → List Node
nodes_with nodes last p o ladder = slice_set (set_next nodes last (Some p)) p (node_behind last o ladder)

-- the nodes when the order at a place is gone
abbrev pub vacated : List Node → ℕ → List Node
vacated nodes p = slice_set nodes p (record (node_at nodes p) { order = None })

abbrev pub nodes_without : List Node → ℕ → Option ℕ → Option ℕ → List Node
nodes_without nodes p prev next = vacated (set_prev (set_next nodes prev next) next prev) p

-- a level whose outmost order on one side is gone: where there is no neighbour on that side, the other one is outmost now
abbrev pub outmost : Option ℕ → Option ℕ → ℕ → ℕ
outmost None other p = unwrap_or other p
outmost (Some q) other p = p

-- what is left of a level without one of its orders
abbrev pub level_without : Level → Option ℕ → Option ℕ → ℕ → List Level
level_without l None None quantity = []
level_without l (Some p) next quantity = record l {
  last = outmost next (Some p) l.last;
  left = l.left - quantity;
  orders = l.orders - 1;
} ∷ []
level_without l None (Some q) quantity = record l { first = q; left = l.left - quantity; orders = l.orders - 1 } ∷ []

-- the levels with one of them replaced
abbrev pub levels_with : List Level → ℕ → List Level → List Level
levels_with levels at new = take at levels ++ (new ++ drop (at + 1) levels)

-- a place that is given is one of the nodes'
abbrev pub IsWithinNodes : List Node → Option ℕ → Type 0
IsWithinNodes nodes place = MatchOption place ⊤ (λ p. p < length nodes)

-- the level at this place is the key's
abbrev pub holds : List Level → ℕ → Key → Bool
holds [] at k = false
holds (l ∷ levels) zero k = same_key l.key k
holds (l ∷ levels) (suc at) k = holds levels at k

-- the order may stand in place of this one: of its level and stamp, with no more to fill
pub record Replaces (old new : Order) : Type 0 where
  pub key : key_of new ≡ key_of old
  pub stamp : new.stamp ≡ old.stamp
  pub no_more : leaves new ≤ leaves old
  pub total : new.total ≤ old.total

abbrev pub IsChange : Option Order → Order → Type 0
IsChange old new = MatchOption old ⊥ (λ o. Replaces o new)

-- the place of a level's first order, and its price
abbrev pub head_of : Level → ℕ × ℕ
head_of l = (l.first, l.key.price)

-- those of the level at this place, if that is one of the symbol and side
abbrev pub of_side : List ℕ → Side → Key → Bool
of_side symbol side k = bytes_eq k.symbol symbol && same_side k.side side

abbrev pub first_in : List ℕ → Side → List Level → ℕ → Option (ℕ × ℕ)
first_in symbol side [] at = None
first_in symbol side (l ∷ levels) zero = if of_side symbol side l.key then Some (head_of l) else None
first_in symbol side (l ∷ levels) (suc at) = first_in symbol side levels at

-- what levels have left that an order crosses, up to the first that it doesn't
abbrev pub crossed_left : List ℕ → Side → ℕ → List Level → ℕ
crossed_left symbol side price [] = 0
crossed_left symbol side price (l ∷ levels) = if key_crossed symbol side price l.key then l.left + crossed_left symbol side price
    levels else 0
