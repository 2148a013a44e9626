-- What the orders of a level have left and how many they are, as an order comes, goes or changes.
use Rattle.std.proofs.Common.{◌≡◌, ℕ, suc, ◌+◌, ◌-◌, ◌*◌, ◌^◌, ◌<◌, ◌≤◌, inl, inr, true, false, List, [], ◌∷◌, length}
use Rattle.std.proofs.Common.{Option, Some, None, refl, ap, sym, subst, ◌∙◌, arith}
use Rattle.std.specs.Prelude.{◌≢◌, option_map, sum_by, if◌then◌else◌, unwrap_or}
use Rattle.std.proofs.lemmas.List.{length-map}
use Rattle.std.proofs.lemmas.List.Sums.{sum_by-cons}
use Rattle.venue_model.specs.declared.orders.Order.{Order}
use Rattle.venue_model.specs.Orders.{leaves}
use Rattle.price_levels.specs.declared.keys.Key.{Key}
use Rattle.price_levels.specs.declared.keys.Level.{Level}
use Rattle.price_levels.specs.declared.nodes.Node.{Node}
use Rattle.price_levels.specs.Places.{Places, at, StandsAt}
use Rattle.price_levels.specs.Keys.{key_of, same_key, level_of}
use Rattle.price_levels.specs.Arena.{Point, At, End, AreRings, order_at, places_of, left_in, total_left, one_in}
use Rattle.price_levels.specs.Arena.{total_orders, InBounds}
use Rattle.price_levels.proofs.KeyLemmas.{same_if, not-same, decide_key}
use Rattle.price_levels.proofs.ArenaLemmas.{bit}
use Rattle.price_levels.proofs.RingLaws.{first}
use Rattle.price_levels.proofs.NodeLemmas.{Seen, sum-seen, member-seen, order-is}

-- what an order leaves in its own level, and in another
pub left-own : (k : Key) (x : Option Order) (o : Order) → x ≡ Some o → key_of o ≡ k → left_in k x ≡ leaves o
left-own k x o is key = ap (left_in k) is ∙ ap (λ t. if t then leaves o else 0) (same_if (key_of o) k key)

pub left-other : (k : Key) (o : Order) → key_of o ≢ k → left_in k (Some o) ≡ 0
left-other k o other = ap (λ t. if t then leaves o else 0) (not-same (key_of o) k other)

pub one-other : (k : Key) (o : Order) → key_of o ≢ k → one_in k (Some o) ≡ 0
one-other k o other = ap bit (not-same (key_of o) k other)

pub one-own : (k : Key) (o : Order) → key_of o ≡ k → one_in k (Some o) ≡ 1
one-own k o key = ap bit (same_if (key_of o) k key)

-- what each order gives to its level alone, and what a level says that all its orders give
pub record Share : Type 0 where
  pub part : Key → Option Order → ℕ
  pub told : Level → ℕ
  pub nothing : (k : Key) → part k None ≡ 0
  pub other : (k : Key) (o : Order) → key_of o ≢ k → part k (Some o) ≡ 0

-- what an order has left, and that it is one
abbrev pub what-is-left : Share
what-is-left = record { part = left_in; told = λ l. l.left; nothing = λ k. refl; other = left-other }

abbrev pub how-many : Share
how-many = record { part = one_in; told = λ l. l.orders; nothing = λ k. refl; other = one-other }

abbrev pub said_of : Share → List Level → Key → ℕ
said_of s levels k = unwrap_or (option_map s.told (level_of k levels)) 0

abbrev pub total_of : Share → Key → Places → ℕ
total_of s k places = sum_by (s.part k) places

pub said-is : (s : Share) (levels : List Level) (k : Key) (l : Level) → level_of k levels ≡ Some l
    → said_of s levels k ≡ s.told l
said-is s levels k l is = ap (λ x. unwrap_or (option_map s.told x) 0) is

-- no order of a key: none gives anything
pub none-given : (s : Share) (k : Key) (ps : Places) → ((p : ℕ) (o : Order) → StandsAt ps p o → key_of o ≢ k)
    → total_of s k ps ≡ 0
none-given s k [] none = refl
none-given s k (None ∷ ps) none =
    let rest = none-given s k ps (λ p o is. none (suc p) o is) in
    let cons = sum_by-cons (s.part k) None ps in
    let here = s.nothing k in
    omega (arith, rest, cons, here)
none-given s k (Some o ∷ ps) none =
    let rest = none-given s k ps (λ p x is. none (suc p) x is) in
    let cons = sum_by-cons (s.part k) (Some o) ps in
    let here = s.other k o (none 0 o refl) in
    omega (arith, rest, cons, here)

pub empty-given : (s : Share) (nodes : List Node) (next prev : Point → Point)
    (rings : AreRings (order_at nodes) next prev) (k : Key) → next (End k) ≡ End k → total_of s k (places_of nodes) ≡ 0
empty-given s nodes next prev rings k alone = none-given s k (places_of nodes) (λ p o is key.
    let first = first (order_at nodes) next prev rings p o (sym (order-is nodes p) ∙ is) in
    let e = sym alone ∙ ap (λ j. next (End j)) (sym key) ∙ first.leads in
    let at_end : End k ≡ At first.place = e in cc)

-- the sum of a level is at most what its orders could have left
module _ (nodes : List Node) (bounds : InBounds nodes) where
  pub each-small : (ps : Places) (f : Option Order → ℕ) → ((p : ℕ) → f (at ps p) ≤ 1000000)
      → sum_by f ps ≤ length ps * 1000000
  each-small [] f small = omega arith
  each-small (x ∷ ps) f small =
      let here : f x ≤ 1000000 = small 0 in
      let rest = each-small ps f (λ p. small (suc p)) in
      let cons = sum_by-cons f x ps in
      omega (arith, here, rest, cons)

  left-small : (k : Key) (x : Option Order) → ((o : Order) → x ≡ Some o → o.total ≤ 1000000) → left_in k x ≤ 1000000
  left-small k None small = omega arith
  left-small k (Some o) small = let h = small o refl in elim (same_key (key_of o) k) as (λ t.
      (if t then leaves o else 0) ≤ 1000000) [ true ↦ omega (arith, h) | false ↦ omega arith ]

  pub total-small : (k : Key) → total_left k (places_of nodes) ≤ length nodes * 1000000
  total-small k =
      let sum = each-small (places_of nodes) (left_in k)
      (λ p. left-small k (at (places_of nodes) p) (λ o is. bounds.each p o (sym
      (order-is nodes p) ∙ is))) in
      let long = length-map nodes (λ (n : Node). n.order) in
      subst (λ n. total_left k (places_of nodes) ≤ n * 1000000) long sum

  pub total-fits : (k : Key) → total_left k (places_of nodes) < 2 ^ 64
  total-fits k = let sum = total-small k in let fits = bounds.fits in omega (arith, sum, fits)

-- there are no more orders than nodes
one-small : (k : Key) (x : Option Order) → one_in k x ≤ 1
one-small k None = omega arith
one-small k (Some o) = elim (same_key (key_of o) k) as (λ t. bit t ≤ 1)
    [ true ↦ omega arith | false ↦ omega arith ]

few-of : (k : Key) (ps : Places) → total_orders k ps ≤ length ps
few-of k [] = omega arith
few-of k (x ∷ ps) =
    let rest = few-of k ps in
    let here = one-small k x in
    let cons = sum_by-cons (one_in k) x ps in
    omega (arith, rest, here, cons)

pub orders-few : (k : Key) (nodes : List Node) → total_orders k (places_of nodes) ≤ length nodes
orders-few k nodes =
    let few = few-of k (places_of nodes) in
    let long : length (places_of nodes) ≡ length nodes = length-map nodes (λ (n : Node). n.order) in
    omega (arith, few, long)

-- what all levels say is so again, after one order has changed at a place of this key
module _ (s : Share) (old new : List Node) (levels levels' : List Level) (p : ℕ) (x y : Option Order) (k : Key)
    (seen : Seen old new p y)
    (was : order_at old p ≡ x) (said : (j : Key) → said_of s levels j ≡ total_of s j (places_of old))
    (others : (j : Key) → j ≢ k → level_of j levels' ≡ level_of j levels)
    (not_x : (j : Key) → j ≢ k → s.part j x ≡ 0) (not_y : (j : Key) → j ≢ k → s.part j y ≡ 0) where
  said-elsewhere : (j : Key) → j ≢ k → said_of s levels' j ≡ total_of s j (places_of new)
  said-elsewhere j other =
      let sums = sum-seen (s.part j) old new p y seen in
      let gone = ap (s.part j) was ∙ not_x j other in
      let come = not_y j other in
      let before = said j in
      let same : said_of s levels' j ≡ said_of s levels j = ap (λ l. unwrap_or (option_map s.told l) 0)
      (others j other) in
      omega (arith, sums, gone, come, before, same)

  pub said-here : (n m : ℕ) → s.part k x ≡ n → s.part k y ≡ m → said_of s levels' k ≡ said_of s levels k - n + m →
      said_of s levels' k ≡ total_of s k (places_of new)
  said-here n m gone come is =
      let sums = sum-seen (s.part k) old new p y seen in
      let was_n = ap (s.part k) was ∙ gone in
      let before = said k in
      let member = member-seen (s.part k) old new p y seen (s.nothing k) in
      omega (arith, sums, was_n, come, before, member, is)

  -- once it is so of this key, it is so of each
  pub said-again : said_of s levels' k ≡ total_of s k (places_of new) → (j : Key)
      → said_of s levels' j ≡ total_of s j (places_of new)
  said-again here j = elim (decide_key j k) [
    | inl is ↦ subst (λ i. said_of s levels' i ≡ total_of s i (places_of new)) (sym is) here
    | inr other ↦ said-elsewhere j other
  ]
