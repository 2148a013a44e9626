-- The level of an order, which a search has found, as the order leaves or changes.
use Rattle.std.proofs.Common.{◌≡◌, ℕ, ◌+◌, ◌-◌, ◌^◌, ◌<◌, ◌≤◌, true, false, List, [], ◌∷◌, length, get_or, take, drop}
use Rattle.std.proofs.Common.{Option, Some, None, refl, ap, sym, subst, ◌∙◌, arith, Ok, Err}
use Rattle.std.specs.Prelude.{option_map, MatchOption, slice_set, IsOk, is_ok, Result, if◌then◌else◌}
use Rattle.std.specs.List.{AllByRecursion}
use Rattle.venue_model.specs.declared.orders.Order.{Order}
use Rattle.venue_model.specs.Orders.{leaves}
use Rattle.price_levels.specs.declared.keys.Key.{Key}
use Rattle.price_levels.specs.declared.keys.Level.{Level}
use Rattle.price_levels.specs.declared.nodes.Node.{Node}
use Rattle.price_levels.specs.Keys.{key_of, key_before, InOrder, level_of}
use Rattle.price_levels.specs.Arena.{node_at, order_at, first_of, last_of, left_in, left_of, orders_of, IsArena}
use Rattle.price_levels.specs.Arena.{AreLevels, IsLevels, Replaces, nodes_without, level_without, levels_with}
use Rattle.price_levels.proofs.LevelLists.{IsLevelAt, Changes, found-level, found-within, replaced, closed, level-is}
use Rattle.price_levels.proofs.NodeLemmas.{within-nodes, changed-seen, member-seen}
use Rattle.price_levels.proofs.LeftLemmas.{total-fits, left-own, what-is-left, how-many, said-is}
use Rattle.price_levels.proofs.Leavings.{has-level, gone}
use Rattle.price_levels.proofs.Changings.{change}
use Rattle.price_levels.proofs.ShortenLemmas.{set-with}

-- what a search for a key has found
pub record Searched (k : Key) (levels : List Level) (at : ℕ) : Type 0 where
  pub before : AllByRecursion (λ l. key_before l.key k ≡ true) (take at levels)
  pub behind : AllByRecursion (λ l. key_before l.key k ≡ false) (drop at levels)

-- nodes, free places and levels together
pub whole : (nodes' nodes : List Node) (free' free : List ℕ) (levels' levels : List Level) → nodes' ≡ nodes
    → free' ≡ free →
    levels' ≡ levels →
    IsArena nodes free → AreLevels nodes levels → IsLevels nodes' free' levels'
whole nodes' nodes free' free levels' levels n f l arena ordered = record {
  arena = subst (λ ns. IsArena ns free') (sym n) (subst (IsArena nodes) (sym f) arena);
  ordered = subst (λ ns. AreLevels ns levels') (sym n) (subst (AreLevels nodes) (sym l) ordered);
}

-- the level that loses an order, and what is said of it
record Shorter (levels : List Level) (at : ℕ) (k : Key) (l : Level) (prev next : Option ℕ) (quantity : ℕ) : Type 0 where
  pub level : Option Level
  pub changes : Changes levels (levels_with levels at (level_without l prev next quantity)) k level
  pub firsts : MatchOption prev (option_map (λ (m : Level). m.first) level ≡ next) (λ q. option_map (λ
      (m : Level). m.first) level ≡ Some l.first)
  pub lasts : MatchOption next (option_map (λ (m : Level). m.last) level ≡ prev) (λ q. option_map (λ
      (m : Level). m.last) level ≡ Some l.last)
  pub lefts : MatchOption level ((prev ≡ None) × (next ≡ None)) (λ m. m.left ≡ l.left - quantity)
  pub counts : MatchOption level ((prev ≡ None) × (next ≡ None)) (λ m. m.orders ≡ l.orders - 1)

shorter : (levels : List Level) (at : ℕ) (k : Key) (l : Level) (prev next : Option ℕ) (quantity : ℕ) → InOrder levels →
    IsLevelAt levels at k l →
    Shorter levels at k l prev next quantity
shorter levels at k l None None quantity order is = record {
  level = None;
  changes = closed levels at k l order is;
  firsts = refl;
  lasts = refl;
  lefts = (refl, refl);
  counts = (refl, refl);
}
shorter levels at k l None (Some q) quantity order is =
    let less : Level = record l { first = q; left = l.left - quantity; orders = l.orders - 1 } in
    record {
      level = Some less;
      changes = replaced levels at k l order is less refl;
      firsts = refl;
      lasts = refl;
      lefts = refl;
      counts = refl;
    }
shorter levels at k l (Some p) None quantity order is =
    let less : Level = record l { last = p; left = l.left - quantity; orders = l.orders - 1 } in
    record {
      level = Some less;
      changes = replaced levels at k l order is less refl;
      firsts = refl;
      lasts = refl;
      lefts = refl;
      counts = refl;
    }
shorter levels at k l (Some p) (Some q) quantity order is =
    let less : Level = record l { left = l.left - quantity; orders = l.orders - 1 } in
    record {
      level = Some less;
      changes = replaced levels at k l order is less refl;
      firsts = refl;
      lasts = refl;
      lefts = refl;
      counts = refl;
    }

match-same : {X Y : Type 0} (x : Option X) (A : Type 0) (a b c : Y) → b ≡ c → MatchOption x A (λ q. a ≡ b)
    → MatchOption x A (λ q. a ≡ c)
match-same None A a b c is h = h
match-same (Some q) A a b c is h = h ∙ is

less : (told : Level → ℕ) (level : Option Level) (prev next : Option ℕ) (m n : ℕ) → m ≡ n
    → MatchOption level ((prev ≡ None) × (next ≡ None)) (λ l. told l ≡ m)
    → MatchOption level ((prev ≡ None) × (next ≡ None)) (λ l. told l ≡ n)
less told None prev next m n is h = h
less told (Some l) prev next m n is h = h ∙ is

-- an order leaves, or changes in its place
module _ (nodes : List Node) (levels : List Level) (are : AreLevels nodes levels) (p : ℕ) (o : Order)
    (here : order_at nodes p ≡ Some o) (at : ℕ)
    (search : Searched (key_of o) levels at) where
  pub leave-within : at < length levels
  leave-within = let level = has-level nodes levels are p o here in found-within levels at
      (key_of o) are.in_order search.before search.behind level.0 level.1

  pub within-here : p < length nodes
  within-here = within-nodes nodes p o here

  pub at-its-level : (l : Level) → l ≡ get_or levels at l → IsLevelAt levels at (key_of o) l
  at-its-level l l_is = let level = has-level nodes levels are p o here in found-level levels at
      (key_of o) are.in_order search.before search.behind level.0 l level.1 l_is

  module _ (l : Level) (l_is : l ≡ get_or levels at l) where
    its-level : level_of (key_of o) levels ≡ Some l
    its-level = level-is levels at (key_of o) l are.in_order (at-its-level l l_is)

    pub leave-levels : (prev next : Option ℕ) → (node_at nodes p).prev ≡ prev → (node_at nodes p).next ≡ next →
        AreLevels (nodes_without nodes p prev next) (levels_with levels at (level_without l prev next (leaves o)))
    leave-levels prev next prev_was next_was =
        let short = shorter levels at (key_of o) l prev next (leaves o) are.in_order (at-its-level l l_is) in
        let left = said-is what-is-left levels (key_of o) l its-level in
        let orders = said-is how-many levels (key_of o) l its-level in
        gone nodes levels are p o here (levels_with levels at (level_without l prev next
        (leaves o))) prev next short.level prev_was next_was short.changes
        (match-same prev (option_map (λ (m : Level). m.first) short.level ≡ next)
        (option_map (λ (m : Level). m.first) short.level)
        (Some l.first) (first_of levels (key_of o))
        (sym (ap (option_map (λ (m : Level). m.first)) its-level)) short.firsts)
        (match-same next (option_map (λ (m : Level). m.last) short.level ≡ prev)
        (option_map (λ (m : Level). m.last) short.level)
        (Some l.last) (last_of levels (key_of o))
        (sym (ap (option_map (λ (m : Level). m.last)) its-level)) short.lasts)
        (less (λ l. l.left) short.level prev next (l.left - leaves o) (left_of levels (key_of o) - leaves o)
        (ap (λ n. n - leaves o) (sym left)) short.lefts)
        (less (λ l. l.orders) short.level prev next (l.orders - 1) (orders_of levels (key_of o) - 1)
        (ap (λ n. n - 1) (sym orders)) short.counts)

    -- what the level has left, with a smaller order in place of this one, fits
    pub change-fits : (y : Order) → leaves y ≤ leaves o → l.left - leaves o + leaves y < 2 ^ 64
    change-fits y less =
        let left = said-is what-is-left levels (key_of o) l its-level in
        let all = are.left (key_of o) in
        let fits = total-fits nodes are.bounds (key_of o) in
        let own = left-own (key_of o) (order_at nodes p) o here refl in
        let member = member-seen (left_in (key_of o)) nodes
        (slice_set nodes p (record (node_at nodes p) { order = Some o })) p
        (Some o) (changed-seen nodes p o within-here) refl in
        omega (arith, left, all, fits, own, member, less)

    pub change-levels : (y : Order) → Replaces o y →
        AreLevels (slice_set nodes p (record (node_at nodes p) { order = Some y })) (slice_set levels at
        (record l { left = l.left - leaves o + leaves y }))
    change-levels y replaces =
        let it = at-its-level l l_is in
        subst (AreLevels (slice_set nodes p (record (node_at nodes p) { order = Some y }))) (sym (set-with levels at
        (record l { left = l.left - leaves o + leaves y }) it.within))
        (change nodes levels (levels_with levels at (record l { left = l.left - leaves o + leaves y } ∷ [])) are p o y l
        (record l { left = l.left - leaves o + leaves y }) here replaces
        (replaced levels at (key_of o) l are.in_order it (record l { left = l.left - leaves o + leaves y }) refl)
        its-level refl refl refl refl)

-- what an insertion with room leaves
pub when-ok : {T F X : Type 0} (r : Result T F) (a b : X) → IsOk r → (if is_ok r then a else b) ≡ a
when-ok (Ok x) a b ok = refl
when-ok (Err e) a b ok = absurd (let h : false ≡ true = ok in cc)
