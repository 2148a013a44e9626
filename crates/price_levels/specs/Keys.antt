-- The order in which levels stand: by symbol, buys before sells, and of one symbol and side from the best price on.
use Rattle.std.specs.Prelude.{◌≡◌, ⊤, ℕ, nat_eq, Bool, true, false, ◌&&◌, List, [], ◌∷◌, Option, Some, None, if◌then◌else◌}
use Rattle.std.specs.List.{AllByRecursion, count_by}
use Rattle.std.specs.List.Sorted.{IsPartitionedBy}
use Rattle.std.specs.Str.{bytes_eq}
use Rattle.std.specs.Ordering.{nat_cmp, is_lt}
use Rattle.std.specs.Cmp.Lexicographic.{slice_cmp}
use Rattle.venue_model.specs.declared.orders.Side.{Side}
use Rattle.venue_model.specs.declared.orders.Side.TheVariants.{Buy, Sell}
use Rattle.venue_model.specs.declared.orders.Order.{Order}
use Rattle.venue_model.specs.Orders.{same_side, meets, is_better}
use Rattle.price_levels.specs.declared.keys.Key.{Key}
use Rattle.price_levels.specs.declared.keys.Level.{Level}

-- the level that an order rests in
abbrev pub key_of : Order → Key
key_of o = record { symbol = o.symbol; side = o.side; price = o.price }

-- the level of a symbol, side and price
abbrev pub key_with : List ℕ → Side → ℕ → Key
key_with symbol side price = record { symbol = symbol; side = side; price = price }

abbrev pub same_key : Key → Key → Bool
same_key a b = bytes_eq a.symbol b.symbol && (same_side a.side b.side && nat_eq a.price b.price)

-- an order of this symbol, side and price crosses the orders of a level
abbrev pub key_crossed : List ℕ → Side → ℕ → Key → Bool
key_crossed symbol side price k = bytes_eq symbol k.symbol && meets side price k.side k.price

-- of two sides, the first is Buy and the second Sell; of one side, as it is said
abbrev pub side_before : Side → Side → Bool → Bool
side_before Buy Buy of_one_side = of_one_side
side_before Sell Sell of_one_side = of_one_side
side_before Buy Sell of_one_side = true
side_before Sell Buy of_one_side = false

-- any order of the symbols serves that is one: this is by their bytes
abbrev pub symbol_before : List ℕ → List ℕ → Bool
symbol_before a b = is_lt (slice_cmp nat_cmp a b)

abbrev pub key_before : Key → Key → Bool
key_before a b =
    if bytes_eq a.symbol b.symbol then side_before a.side b.side (is_better a.side a.price b.price) else symbol_before a.symbol b.symbol

-- a level that stands before all of a symbol and side
abbrev pub before_side : List ℕ → Side → Key → Bool
before_side symbol side k =
    if bytes_eq k.symbol symbol then side_before k.side side false else symbol_before k.symbol symbol

-- each level stands before those behind it
abbrev pub InOrder : List Level → Type 0
InOrder [] = ⊤
InOrder (l ∷ ls) = AllByRecursion (λ m. key_before l.key m.key ≡ true) ls × InOrder ls

-- the level of a key
abbrev pub level_of : Key → List Level → Option Level
level_of k [] = None
level_of k (l ∷ ls) = if same_key l.key k then Some l else level_of k ls

-- how many levels have a better price than this
abbrev pub count_better : Side → ℕ → List Level → ℕ
count_better side price levels = count_by (λ l. is_better side l.key.price price) levels

-- no level of a better price stands behind one that has none
abbrev pub BetterFirst : Side → ℕ → List Level → Type 0
BetterFirst side price levels = IsPartitionedBy (λ l. is_better side l.key.price price) levels
