-- What an order would cross, by levels and by orders.
use Rattle.std.proofs.Common.{◌≡◌, ℕ, suc, ◌+◌, ◌*◌, ◌^◌, ◌<◌, ◌≤◌, Bool, true, false, List, [], ◌∷◌, take, drop}
use Rattle.std.proofs.Common.{Option, Some, None, refl, ap, sym, subst, ◌∙◌, arith, take-append-drop}
use Rattle.std.specs.Prelude.{sum_by, filter, is_some, if◌then◌else◌}
use Rattle.std.specs.List.{AllByRecursion}
use Rattle.std.proofs.lemmas.List.{length-map}
use Rattle.std.proofs.lemmas.List.Sums.{sum_by-cons, sum_by-append}
use Rattle.venue_model.specs.declared.orders.Side.{Side}
use Rattle.venue_model.specs.declared.orders.Order.{Order}
use Rattle.venue_model.specs.Orders.{opposite, leaves}
use Rattle.price_levels.specs.declared.keys.Key.{Key}
use Rattle.price_levels.specs.declared.keys.Level.{Level}
use Rattle.price_levels.specs.declared.nodes.Node.{Node}
use Rattle.price_levels.specs.Places.{Places, at, standing, crosses_at, crossing_leaves}
use Rattle.price_levels.specs.Keys.{key_of, same_key, key_before, before_side, InOrder, key_crossed}
use Rattle.price_levels.specs.Arena.{order_at, places_of, left_in, AreLevels, crossed_left}
use Rattle.price_levels.proofs.KeyLemmas.{key-is}
use Rattle.price_levels.proofs.LevelLists.{all-map, order-back}
use Rattle.price_levels.proofs.NodeLemmas.{order-is}
use Rattle.price_levels.proofs.LeftLemmas.{each-small}
use Rattle.price_levels.proofs.Totals.{same-sum, exchange, same-either, once, all-found}
use Rattle.price_levels.proofs.Leavings.{has-level}
use Rattle.price_levels.proofs.LeftLemmas.{what-is-left, said-is}
use Rattle.price_levels.proofs.Groups.{false-if, of-not-before, crossed-of, no-further}

module _ {X : Type 0} where
  same-all : (f g : X → ℕ) (xs : List X) → AllByRecursion (λ x. f x ≡ g x) xs → sum_by f xs ≡ sum_by g xs
  same-all f g [] all = refl
  same-all f g (x ∷ xs) all =
      let rest = same-all f g xs all.1 in
      let one = sum_by-cons f x xs in
      let other = sum_by-cons g x xs in
      let here = all.0 in
      omega (arith, rest, one, other, here)

  zero-all : (f : X → ℕ) (xs : List X) → AllByRecursion (λ x. f x ≡ 0) xs → sum_by f xs ≡ 0
  zero-all f [] all = refl
  zero-all f (x ∷ xs) all =
      let rest = zero-all f xs all.1 in
      let one = sum_by-cons f x xs in
      let here = all.0 in
      omega (arith, rest, one, here)

-- by each place
same-at : (f g : Option Order → ℕ) (ps : Places) → ((p : ℕ) → f (at ps p) ≡ g (at ps p)) → sum_by f ps ≡ sum_by g ps
same-at f g [] same = refl
same-at f g (x ∷ ps) same =
    let rest = same-at f g ps (λ p. same (suc p)) in
    let one = sum_by-cons f x ps in
    let other = sum_by-cons g x ps in
    let here : f x ≡ g x = same 0 in
    omega (arith, rest, one, other, here)

module _ (symbol : List ℕ) (side : Side) (price : ℕ) where
  abbrev when : Bool → ℕ → ℕ
  when t n = if t then n else 0

  -- of levels from the first of the other side on
  by-sum : (ls : List Level) → InOrder ls → AllByRecursion
      (λ (l : Level). before_side symbol (opposite side) l.key ≡ false) ls →
      crossed_left symbol side price ls ≡ sum_by (λ (l : Level). when (key_crossed symbol side price l.key) l.left) ls
  by-sum [] order not = refl
  by-sum (l ∷ ls) order not = elim (key_crossed symbol side price l.key) as (λ t. key_crossed symbol side price l.key
      ≡ t →
      when t (l.left + crossed_left symbol side price ls) ≡ sum_by
      (λ (m : Level). when (key_crossed symbol side price m.key) m.left)
      (l ∷ ls)) [
        | true ↦ λ h.
            let rest = by-sum ls order.1 not.1 in
            let cons = sum_by-cons (λ (m : Level). when (key_crossed symbol side price m.key) m.left) l ls in
            let here = ap (λ t. when t l.left) h in
            omega (arith, rest, cons, here)
        | false ↦ λ h.
            let none = zero-all (λ (m : Level). when (key_crossed symbol side price m.key) m.left) ls
            (all-map (λ (m : Level). key_before l.key m.key ≡ true)
            (λ (m : Level). when (key_crossed symbol side price m.key) m.left ≡ 0)
            (λ m before. ap (λ t. when t m.left) (no-further symbol side price l.key m.key before not.0 h)) ls
            order.0) in
            let cons = sum_by-cons (λ (m : Level). when (key_crossed symbol side price m.key) m.left) l ls in
            let here = ap (λ t. when t l.left) h in
            omega (arith, none, cons, here)
      ] refl

  -- of all levels
  pub from-there : (levels : List Level) (n : ℕ) → InOrder levels → AllByRecursion (λ (l : Level). before_side symbol
      (opposite side) l.key ≡ true) (take n levels) →
      AllByRecursion (λ (l : Level). before_side symbol (opposite side) l.key ≡ false) (drop n levels) →
      crossed_left symbol side price (drop n levels) ≡ sum_by
      (λ (l : Level). when (key_crossed symbol side price l.key) l.left) levels
  from-there levels n order before behind =
      let whole = take-append-drop n levels in
      let f = λ (l : Level). when (key_crossed symbol side price l.key) l.left in
      let none = zero-all f (take n levels) (all-map (λ (l : Level). before_side symbol (opposite side) l.key ≡ true) (λ
      (l : Level). f l ≡ 0)
      (λ l h. ap (λ t. when t l.left)
      (false-if (key_crossed symbol side price l.key) (λ c. of-not-before symbol (opposite side) l.key
      (crossed-of symbol side price l.key c) h)))
      (take n levels) before) in
      let rest = by-sum (drop n levels) (order-back (take n levels) (drop n levels) (subst InOrder (sym whole) order))
      behind in
      let parts = sum_by-append f (take n levels) (drop n levels) in
      let all = ap (sum_by f) whole in
      omega (arith, none, rest, parts, all)

  -- what an order adds, by its level and by itself
  abbrev adds : Key → Option Order → ℕ
  adds k x = when (key_crossed symbol side price k) (left_in k x)

  abbrev crossed_by : Option Order → ℕ
  crossed_by None = 0
  crossed_by (Some o) = when (crosses_at symbol side price o) (leaves o)

  when-sum : (t : Bool) (f : Option Order → ℕ) (ps : Places) → when t (sum_by f ps) ≡ sum_by (λ x. when t (f x)) ps
  when-sum true f ps = refl
  when-sum false f [] = refl
  when-sum false f (x ∷ ps) = let rest = when-sum false f ps in
      let cons = sum_by-cons (λ (y : Option Order). when false (f y)) x ps
      in omega (arith, rest, cons)

  when-none : (t : Bool) → when t 0 ≡ 0
  when-none true = refl
  when-none false = refl

  all-none : (ls : List Level) → AllByRecursion (λ (l : Level). when (key_crossed symbol side price l.key) 0 ≡ 0) ls
  all-none [] = tt
  all-none (l ∷ ls) = (when-none (key_crossed symbol side price l.key), all-none ls)

  adds-own : (k : Key) (o : Order) → adds k (Some o) ≡ when (same_key k (key_of o))
      (when (key_crossed symbol side price (key_of o))
      (leaves o))
  adds-own k o = elim (same_key (key_of o) k) as (λ t. same_key (key_of o) k ≡ t →
      when (key_crossed symbol side price k) (when t (leaves o))
      ≡ when (same_key k (key_of o)) (when (key_crossed symbol side price
      (key_of o)) (leaves o))) [
        | true ↦ λ h.
            ap (λ j. when (key_crossed symbol side price j) (leaves o)) (sym (key-is (key_of o) k h))
            ∙ sym (ap (λ t. when t (when (key_crossed symbol side price (key_of o)) (leaves o)))
            (same-either k (key_of o) ∙ h))
        | false ↦ λ h.
            when-none (key_crossed symbol side price k) ∙ sym
            (ap (λ t. when t (when (key_crossed symbol side price (key_of o))
            (leaves o))) (same-either k (key_of o) ∙ h))
      ] refl

  module _ (nodes : List Node) (levels : List Level) (are : AreLevels nodes levels) where
    in-levels : (p : ℕ) (x : Option Order) → order_at nodes p ≡ x
        → sum_by (λ (l : Level). adds l.key x) levels ≡ crossed_by x
    in-levels p None here = zero-all (λ (l : Level). adds l.key None) levels (all-none levels)
    in-levels p (Some o) here =
        let level = has-level nodes levels are p o here in
        let n = when (key_crossed symbol side price (key_of o)) (leaves o) in
        same-sum (λ (l : Level). adds l.key (Some o)) (λ (l : Level). when (same_key l.key (key_of o)) n) levels
        (λ l. adds-own l.key o)
        ∙ once (key_of o) n levels are.in_order
        ∙ ap (λ x. if is_some x then n else 0) level.1

    by-orders : (ps : Places) → sum_by crossed_by ps ≡ sum_by leaves
        (filter (crosses_at symbol side price) (standing ps))
    by-orders [] = refl
    by-orders (None ∷ ps) = let rest = by-orders ps in
        let cons = sum_by-cons crossed_by None ps in
        omega (arith, rest, cons)
    by-orders (Some o ∷ ps) = elim (crosses_at symbol side price o) as (λ t. crosses_at symbol side price o ≡ t →
        sum_by crossed_by (Some o ∷ ps)
        ≡ sum_by leaves (if t then o ∷ filter (crosses_at symbol side price) (standing ps) else filter
        (crosses_at symbol side price) (standing ps))) [
          | true ↦ λ h.
              let rest = by-orders ps in
              let cons = sum_by-cons crossed_by (Some o) ps in
              let here = ap (λ t. when t (leaves o)) h in
              let more = sum_by-cons leaves o (filter (crosses_at symbol side price) (standing ps)) in
              omega (arith, rest, cons, here, more)
          | false ↦ λ h.
              let rest = by-orders ps in
              let cons = sum_by-cons crossed_by (Some o) ps in
              let here = ap (λ t. when t (leaves o)) h in
              omega (arith, rest, cons, here)
        ] refl

    left-known : AllByRecursion (λ (l : Level). when (key_crossed symbol side price l.key) l.left
        ≡ sum_by (λ x. adds l.key x)
        (places_of nodes)) levels
    left-known = all-found (λ l. when (key_crossed symbol side price l.key) l.left ≡ sum_by (λ x. adds l.key x)
        (places_of nodes)) levels are.in_order (λ l is.
        ap (when (key_crossed symbol side price l.key)) (sym (said-is what-is-left levels l.key l is) ∙ are.left l.key)
        ∙ when-sum (key_crossed symbol side price l.key) (left_in l.key) (places_of nodes))

    pub crossing-is : sum_by (λ (l : Level). when
        (key_crossed symbol side price l.key) l.left) levels ≡ crossing_leaves symbol side price (places_of nodes)
    crossing-is =
        same-all (λ (l : Level). when (key_crossed symbol side price l.key) l.left)
        (λ (l : Level). sum_by (λ x. adds l.key x)
        (places_of nodes)) levels left-known
        ∙ exchange (λ (l : Level) x. adds l.key x) levels (places_of nodes)
        ∙ same-at (λ x. sum_by (λ (l : Level). adds l.key x) levels) crossed_by (places_of nodes) (λ p. in-levels p (at
        (places_of nodes) p) (sym (order-is nodes p)))
        ∙ by-orders (places_of nodes)

    -- it fits
    small : (x : Option Order) → ((o : Order) → x ≡ Some o → o.total ≤ 1000000) → crossed_by x ≤ 1000000
    small None bound = omega arith
    small (Some o) bound = let total = bound o refl in elim (crosses_at symbol side price o) as (λ t. when t
        (leaves o) ≤ 1000000) [ true ↦ omega (arith, total) | false ↦ omega arith ]

    pub crossing-fits : crossing_leaves symbol side price (places_of nodes) < 2 ^ 64
    crossing-fits =
        let sum = each-small nodes are.bounds (places_of nodes) crossed_by (λ p. small (at (places_of nodes) p)
        (λ o is. are.bounds.each p o (sym (order-is nodes p) ∙ is))) in
        let same = by-orders (places_of nodes) in
        let long = ap (λ n. n * 1000000) (length-map nodes (λ (n : Node). n.order)) in
        let fits = are.bounds.fits in
        omega (arith, sum, same, long, fits)

-- as the code cuts the levels
pub total-is : (symbol : List ℕ) (side other : Side) (price : ℕ) (nodes : List Node) (levels : List Level) (n : ℕ) →
    AreLevels nodes levels → other ≡ opposite side →
    AllByRecursion (λ (l : Level). before_side symbol other l.key ≡ true) (take n levels) → AllByRecursion (λ
    (l : Level). before_side symbol other l.key ≡ false) (drop n levels) →
    crossed_left symbol side price (drop n levels) ≡ crossing_leaves symbol side price (places_of nodes)
total-is symbol side other price nodes levels n are is before behind =
    from-there symbol side price levels n are.in_order
    (subst (λ d. AllByRecursion (λ (l : Level). before_side symbol d l.key ≡ true) (take n levels)) is before)
    (subst (λ d. AllByRecursion (λ (l : Level). before_side symbol d l.key ≡ false) (drop n levels)) is behind)
    ∙ crossing-is symbol side price nodes levels are
