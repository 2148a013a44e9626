-- Sums over places by levels: each order stands in just one level.
use Rattle.std.proofs.Common.{◌≡◌, ℕ, ◌+◌, ◌≤◌, inl, inr, true, false, List, [], ◌∷◌, ◌++◌, length, Option, Some, None}
use Rattle.std.proofs.Common.{refl, ap, sym, subst, ◌∙◌, arith, append_assoc}
use Rattle.std.specs.Prelude.{sum_by, option_map, is_some, slice_set, if◌then◌else◌}
use Rattle.std.specs.List.{AllByRecursion}
use Rattle.std.proofs.lemmas.List.Sums.{sum_by-cons}
use Rattle.venue_model.specs.declared.orders.Order.{Order}
use Rattle.price_levels.specs.declared.keys.Key.{Key}
use Rattle.price_levels.specs.declared.keys.Level.{Level}
use Rattle.price_levels.specs.declared.nodes.Node.{Node}
use Rattle.price_levels.specs.Places.{Places, standing}
use Rattle.price_levels.specs.Keys.{key_of, same_key, key_before, InOrder, level_of}
use Rattle.price_levels.specs.Arena.{At, End, end_to, key_at, node_at, order_at, next_point, places_of, AreLevels}
use Rattle.price_levels.proofs.KeyLemmas.{key-is, decide_key, same_if, not-same}
use Rattle.price_levels.proofs.RingLaws.{Stands, stands}
use Rattle.price_levels.proofs.LevelLists.{NotOf, level-here, not-behind-key, not-before-key, order-before}
use Rattle.price_levels.proofs.NodeLemmas.{member-seen, within-nodes, changed-seen}

module _ {X : Type 0} where
  pub same-sum : (f g : X → ℕ) (xs : List X) → ((x : X) → f x ≡ g x) → sum_by f xs ≡ sum_by g xs
  same-sum f g [] same = refl
  same-sum f g (x ∷ xs) same =
      let rest = same-sum f g xs same in
      let one = sum_by-cons f x xs in
      let other = sum_by-cons g x xs in
      let here = same x in
      omega (arith, rest, one, other, here)

  sum-none : (xs : List X) → sum_by (λ x. 0) xs ≡ 0
  sum-none [] = refl
  sum-none (x ∷ xs) = let rest = sum-none xs in let one = sum_by-cons (λ (y : X). 0) x xs in omega (arith, rest, one)

  sum-both : (f g : X → ℕ) (xs : List X) → sum_by (λ x. f x + g x) xs ≡ sum_by f xs + sum_by g xs
  sum-both f g [] = refl
  sum-both f g (x ∷ xs) =
      let rest = sum-both f g xs in
      let both = sum_by-cons (λ y. f y + g y) x xs in
      let one = sum_by-cons f x xs in
      let other = sum_by-cons g x xs in
      omega (arith, rest, both, one, other)

  pub sum-le : (f g : X → ℕ) (xs : List X) → ((x : X) → f x ≤ g x) → sum_by f xs ≤ sum_by g xs
  sum-le f g [] le = omega arith
  sum-le f g (x ∷ xs) le =
      let rest = sum-le f g xs le in
      let one = sum_by-cons f x xs in
      let other = sum_by-cons g x xs in
      let here = le x in
      omega (arith, rest, one, other, here)

  pub sum-each : (f : X → ℕ) (xs : List X) → AllByRecursion (λ x. 1 ≤ f x) xs → length xs ≤ sum_by f xs
  sum-each f [] all = omega arith
  sum-each f (x ∷ xs) all =
      let rest = sum-each f xs all.1 in
      let one = sum_by-cons f x xs in
      let here = all.0 in
      omega (arith, rest, one, here)

-- by rows or by columns
pub exchange : {X Y : Type 0} (f : X → Y → ℕ) (xs : List X) (ys : List Y)
    → sum_by (λ x. sum_by (λ y. f x y) ys) xs ≡ sum_by
    (λ y. sum_by (λ x. f x y) xs) ys
exchange f [] ys = sym (sum-none ys)
exchange f (x ∷ xs) ys =
    sum_by-cons (λ z. sum_by (λ y. f z y) ys) x xs
    ∙ ap (λ n. sum_by (λ y. f x y) ys + n) (exchange f xs ys)
    ∙ sym (sum-both (λ y. f x y) (λ y. sum_by (λ z. f z y) xs) ys)
    ∙ same-sum (λ y. f x y + sum_by (λ z. f z y) xs) (λ y. sum_by (λ z. f z y) (x ∷ xs)) ys
    (λ y. sym (sum_by-cons (λ z. f z y) x xs))

pub same-either : (a b : Key) → same_key a b ≡ same_key b a
same-either a b = elim (decide_key a b) [
  | inl is ↦ same_if a b is ∙ sym (same_if b a (sym is))
  | inr other ↦ not-same a b other ∙ sym (not-same b a (λ is. other (sym is)))
]

-- a key counts in its level alone
no-level : (k : Key) (n : ℕ) (ls : List Level) → NotOf k ls
    → sum_by (λ (l : Level). if same_key l.key k then n else 0) ls ≡ 0
no-level k n [] not = refl
no-level k n (l ∷ ls) not =
    let rest = no-level k n ls not.1 in
    let one = sum_by-cons (λ (m : Level). if same_key m.key k then n else 0) l ls in
    let here = ap (λ t. if t then n else 0) (not-same l.key k not.0) in
    omega (arith, rest, one, here)

pub once : (k : Key) (n : ℕ) (ls : List Level) → InOrder ls
    → sum_by (λ (l : Level). if same_key l.key k then n else 0) ls ≡
    (if is_some (level_of k ls) then n else 0)
once k n [] order = refl
once k n (l ∷ ls) order = elim (same_key l.key k) as (λ t. same_key l.key k ≡ t →
    sum_by (λ (m : Level). if same_key m.key k then n else 0) (l ∷ ls)
    ≡ (if is_some (if t then Some l else level_of k ls) then n else 0)) [
      | true ↦ λ h.
          let one = sum_by-cons (λ (m : Level). if same_key m.key k then n else 0) l ls in
          let here = ap (λ t. if t then n else 0) h in
          let rest = no-level k n ls (not-behind-key k ls
          (subst (λ j. AllByRecursion (λ (m : Level). key_before j m.key ≡ true) ls)
          (key-is l.key k h) order.0)) in
          omega (arith, one, here, rest)
      | false ↦ λ h.
          let one = sum_by-cons (λ (m : Level). if same_key m.key k then n else 0) l ls in
          let here = ap (λ t. if t then n else 0) h in
          let rest = once k n ls order.1 in
          omega (arith, one, here, rest)
    ] refl

-- what holds of each level that its key finds, holds of all
each-found : (P : Level → Type 0) (xs ys : List Level) → InOrder (xs ++ ys)
    → ((l : Level) → level_of l.key (xs ++ ys) ≡ Some l →
    P l) → AllByRecursion P ys
each-found P xs [] order found = tt
each-found P xs (y ∷ ys) order found =
    let whole : (xs ++ y ∷ []) ++ ys ≡ xs ++ y ∷ ys = append_assoc xs (y ∷ []) ys in (
      found y (level-here y.key xs ys y (not-before-key y.key xs (order-before xs ys y order)) refl),
      each-found P (xs ++ y ∷ []) ys (subst InOrder (sym whole) order)
          (λ l is. found l (ap (level_of l.key) (sym whole) ∙ is)),
    )

pub all-found : (P : Level → Type 0) (ls : List Level) → InOrder ls → ((l : Level) → level_of l.key ls ≡ Some l → P l)
    → AllByRecursion P ls
all-found P ls order found = each-found P [] ls order found

-- the first order of a level stands
pub first-stands : (nodes : List Node) (levels : List Level) → AreLevels nodes levels → (k : Key) (l : Level) →
    level_of k levels ≡ Some l → Stands (order_at nodes) l.first k
first-stands nodes levels are k l is =
    let next_is : next_point nodes levels (End k) ≡ At l.first =
    ap (λ x. end_to (option_map (λ (m : Level). m.first) x) k) is in
    stands (order_at nodes) l.first k (ap (λ x. key_at (order_at nodes) x) (sym next_is) ∙ are.rings.key (End k))

-- there are no more levels than orders
abbrev in_level : Key → Option Order → ℕ
in_level k None = 0
in_level k (Some o) = if same_key k (key_of o) then 1 else 0

abbrev any : Option Order → ℕ
any None = 0
any (Some o) = 1

count-any : (ps : Places) → sum_by any ps ≡ length (standing ps)
count-any [] = refl
count-any (None ∷ ps) = let rest = count-any ps in let one = sum_by-cons any None ps in omega (arith, rest, one)
count-any (Some o ∷ ps) = let rest = count-any ps in let one = sum_by-cons any (Some o) ps in omega (arith, rest, one)

at-most-one : (ls : List Level) → InOrder ls → (x : Option Order) → sum_by (λ (l : Level). in_level l.key x) ls ≤ any x
at-most-one ls order None = let none = sum-none ls in omega (arith, none)
at-most-one ls order (Some o) =
    let one = once (key_of o) 1 ls order in
    elim (is_some (level_of (key_of o) ls)) as (λ t. sum_by (λ (l : Level). if same_key l.key (key_of o) then 1 else 0)
    ls ≡
    (if t then 1 else 0) → sum_by (λ (l : Level). if same_key l.key (key_of o) then 1 else 0) ls ≤ 1) [
      | true ↦ λ h. omega (arith, h)
      | false ↦ λ h. omega (arith, h)
    ] one

pub few : (nodes : List Node) (levels : List Level) → AreLevels nodes levels
    → length levels ≤ length (standing (places_of nodes))
few nodes levels are =
    let each = all-found (λ l. 1 ≤ sum_by (in_level l.key) (places_of nodes)) levels are.in_order (λ l is.
    let first = first-stands nodes levels are l.key l is in
    let within = within-nodes nodes l.first first.order first.is in
    let here = ap (in_level l.key) first.is ∙ ap (λ t. if t then 1 else 0)
    (same_if l.key (key_of first.order) (sym first.key)) in
    let member = member-seen (in_level l.key) nodes (slice_set nodes l.first (record
    (node_at nodes l.first) { order = Some first.order })) l.first (Some first.order)
    (changed-seen nodes l.first first.order within) refl in
    omega (arith, here, member)) in
    let levels_le = sum-each (λ (l : Level). sum_by (in_level l.key) (places_of nodes)) levels each in
    let swap = exchange (λ (l : Level) x. in_level l.key x) levels (places_of nodes) in
    let le = sum-le (λ x. sum_by (λ (l : Level). in_level l.key x) levels) any (places_of nodes)
    (at-most-one levels are.in_order) in
    let count = count-any (places_of nodes) in
    omega (arith, levels_le, swap, le, count)
