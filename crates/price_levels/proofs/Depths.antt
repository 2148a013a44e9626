-- What rests at a price: what its level says, or nothing.
use Rattle.std.proofs.Common.{◌≡◌, ℕ, ◌+◌, Bool, true, false, List, [], ◌∷◌, length, Some, None, get_or, refl, ap}
use Rattle.std.proofs.Common.{sym, ◌∙◌, arith}
use Rattle.std.specs.Prelude.{sum_by, filter, if◌then◌else◌, option_map, unwrap_or}
use Rattle.std.proofs.lemmas.List.Sums.{sum_by-cons}
use Rattle.venue_model.specs.declared.orders.Side.{Side}
use Rattle.venue_model.specs.declared.orders.Order.{Order}
use Rattle.venue_model.specs.Orders.{leaves}
use Rattle.price_levels.specs.declared.keys.Key.{Key}
use Rattle.price_levels.specs.declared.keys.Level.{Level}
use Rattle.price_levels.specs.declared.nodes.Node.{Node}
use Rattle.price_levels.specs.Places.{Places, standing, rests_at}
use Rattle.price_levels.specs.Keys.{key_with, level_of}
use Rattle.price_levels.specs.Arena.{places_of, left_in, total_left, one_in, total_orders, holds, AreLevels}
use Rattle.price_levels.proofs.ArenaLemmas.{bit}
use Rattle.price_levels.proofs.LeftLemmas.{what-is-left, how-many, said-is}
use Rattle.price_levels.proofs.Ends.{Searched}
use Rattle.price_levels.proofs.LevelLists.{IsLevelAt, found-holds, level-is}
use Rattle.price_levels.proofs.LevelLists as lists

-- A search has come to where the level of a key stands, or would.
module _ (nodes : List Node) (levels : List Level) (are : AreLevels nodes levels) (k : Key) (n : ℕ)
    (search : Searched k levels n) (there : Bool) (is : there ≡ holds levels n k) where
  -- it isn't there
  module _ (no : there ≡ false) where
    absent : level_of k levels ≡ None
    absent = lists.none-there levels n k are.in_order search.before search.behind (sym is ∙ no)

    pub nothing-left : 0 ≡ total_left k (places_of nodes)
    nothing-left = sym (ap (λ x. unwrap_or (option_map (λ (m : Level). m.left) x) 0) absent) ∙ are.left k

    pub nobody-there : 0 ≡ total_orders k (places_of nodes)
    nobody-there = sym (ap (λ x. unwrap_or (option_map (λ (m : Level). m.orders) x) 0) absent) ∙ are.orders k

  -- it is
  module _ (yes : there ≡ true) (l : Level) (read : l ≡ get_or levels n l) where
    at-it : IsLevelAt levels n k l
    at-it = found-holds levels n k are.in_order search.before search.behind l (sym is ∙ yes) read

    present : level_of k levels ≡ Some l
    present = level-is levels n k l are.in_order at-it

    pub all-left : l.left ≡ total_left k (places_of nodes)
    all-left = sym (said-is what-is-left levels k l present) ∙ are.left k

    pub all-there : l.orders ≡ total_orders k (places_of nodes)
    all-there = sym (said-is how-many levels k l present) ∙ are.orders k

-- WHAT CONTRACTS SEE

module _ (symbol : List ℕ) (side : Side) (price : ℕ) where
  abbrev its : Order → Bool
  its = rests_at symbol side price

  left-cons : (t : Bool) (o : Order) (os : List Order)
      → sum_by leaves (if t then o ∷ os else os) ≡ (if t then leaves o else 0) + sum_by leaves os
  left-cons true o os = sum_by-cons leaves o os
  left-cons false o os = omega arith

  one-cons : (t : Bool) (o : Order) (os : List Order)
      → length (if t then o ∷ os else os) ≡ bit t + length os
  one-cons true o os = omega arith
  one-cons false o os = omega arith

  pub left-stands : (ps : Places) → total_left (key_with symbol side price) ps
      ≡ sum_by leaves (filter its (standing ps))
  left-stands [] = refl
  left-stands (None ∷ ps) =
      let rest = left-stands ps in
      let cons = sum_by-cons (left_in (key_with symbol side price)) None ps in
      omega (arith, rest, cons)
  left-stands (Some o ∷ ps) =
      let rest = left-stands ps in
      let cons = sum_by-cons (left_in (key_with symbol side price)) (Some o) ps in
      let here = left-cons (its o) o (filter its (standing ps)) in
      omega (arith, rest, cons, here)

  pub orders-stand : (ps : Places) → total_orders (key_with symbol side price) ps ≡ length (filter its (standing ps))
  orders-stand [] = refl
  orders-stand (None ∷ ps) =
      let rest = orders-stand ps in
      let cons = sum_by-cons (one_in (key_with symbol side price)) None ps in
      omega (arith, rest, cons)
  orders-stand (Some o ∷ ps) =
      let rest = orders-stand ps in
      let cons = sum_by-cons (one_in (key_with symbol side price)) (Some o) ps in
      let here = one-cons (its o) o (filter its (standing ps)) in
      omega (arith, rest, cons, here)
