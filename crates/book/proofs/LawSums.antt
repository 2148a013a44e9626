-- What a match fills, in sum: as much as both sides have, and the same on both sides.
use Rattle.std.proofs.Common.{◌≡◌, ℕ, zero, suc, ◌+◌, ◌-◌, ◌*◌, ◌<◌, ◌≤◌, min, Bool, true, false, List, [], ◌∷◌, ◌++◌}
use Rattle.std.proofs.Common.{length, map, refl, ap, sym, subst, ◌∙◌, arith, length-append}
use Rattle.std.specs.Prelude.{sum_by, filter, if◌then◌else◌}
use Rattle.std.specs.List.{AllByRecursion}
use Rattle.std.proofs.lemmas.List.Sums.{sum_by-cons}
use Rattle.venue_model.specs.declared.orders.Side.{Side}
use Rattle.venue_model.specs.declared.orders.Order.{Order}
use Rattle.venue_model.specs.Orders.{opposite, leaves, crosses, ahead}
use Rattle.venue_model.specs.Match.{crossing, fill, after_fill, settled, done}
use Rattle.book.specs.Passes.{Leads}
use Rattle.book.specs.Standing.{Rising}
use Rattle.book.proofs.Lists.{same_sum, each-append, each-front, each-back, each-map, each-of, each-filter, each-passes}
use Rattle.book.proofs.Lists.{sum-middle}
use Rattle.book.proofs.Sides.{ahead-self, crossed-side, leads-of, leads-trans, leads-earlier}
use Rattle.book.proofs.LawPairs.{each-mapped}
use Rattle.book.proofs.Fills.{ahead-more, fill-first}

-- THE BEST OF A QUEUE

-- an order that leads all others of a queue
record Best (queue : List Order) : Type 0 where
  pub order : Order
  pub before : List Order
  pub behind : List Order
  pub whole : queue ≡ before ++ order ∷ behind
  pub leads_before : AllByRecursion (Leads order) before
  pub leads_behind : AllByRecursion (Leads order) behind

abbrev pub IsOf : Side → Order → Type 0
IsOf side x = x.side ≡ side

-- orders of one side with rising stamps, one or more, have one
best-of : (side : Side) (o : Order) (os : List Order) → Rising (o ∷ os) → AllByRecursion (IsOf side) (o ∷ os)
    → Best (o ∷ os)
best-of side o [] rising sides = record {
  order = o;
  before = [];
  behind = [];
  whole = refl;
  leads_before = tt;
  leads_behind = tt;
}
best-of side o (x ∷ xs) rising sides =
    let best : Best (x ∷ xs) = best-of side x xs rising.1 sides.1 in
    let b : Order = best.order in
    let sides_around : AllByRecursion (IsOf side) (best.before ++ b ∷ best.behind) =
    subst (AllByRecursion (IsOf side)) best.whole sides.1 in
    let later_around : AllByRecursion (λ y. o.stamp < y.stamp) (best.before ++ b ∷ best.behind) =
    subst (AllByRecursion (λ y. o.stamp < y.stamp)) best.whole rising.0 in
    let side_b : b.side ≡ side = (each-back (IsOf side) best.before (b ∷ best.behind) sides_around).0 in
    let later_b : o.stamp < b.stamp =
    (each-back (λ y. o.stamp < y.stamp) best.before (b ∷ best.behind) later_around).0 in
    let same : o.side ≡ b.side = sides.0 ∙ sym side_b in
    elim (ahead b o) as (λ t. ahead b o ≡ t → Best (o ∷ x ∷ xs)) [
      | true ↦ λ h. record {
        order = b;
        before = o ∷ best.before;
        behind = best.behind;
        whole = ap (λ zs. o ∷ zs) best.whole;
        leads_before = (leads-of b o (sym same) h, best.leads_before);
        leads_behind = best.leads_behind;
      }
      | false ↦ λ h.
          let first : Leads o b = leads-earlier o b same later_b h in
          let others : (ys : List Order) → AllByRecursion (IsOf side) ys → AllByRecursion (Leads b) ys
          → AllByRecursion (Leads o) ys =
          λ ys of_side leads. behind-both o b side ys same side_b first.ahead_of of_side leads in
          record {
            order = o;
            before = [];
            behind = x ∷ xs;
            whole = refl;
            leads_before = tt;
            leads_behind = subst (AllByRecursion (Leads o)) (sym best.whole)
                (each-append (Leads o) best.before (b ∷ best.behind)
                (others best.before (each-front (IsOf side) best.before (b ∷ best.behind) sides_around)
                best.leads_before) (
                  first,
                  others best.behind (each-back (IsOf side) best.before (b ∷ best.behind) sides_around).1
                      best.leads_behind,
                ));
          }
    ] refl
  where
    behind-both : (a b : Order) (s : Side) (ys : List Order) → a.side ≡ b.side → b.side ≡ s → ahead a b ≡ true →
        AllByRecursion (IsOf s) ys → AllByRecursion (Leads b) ys → AllByRecursion (Leads a) ys
    behind-both a b s [] same of_b first of_side leads = tt
    behind-both a b s (y ∷ ys) same of_b first of_side leads = (
      leads-trans a b y same (of_b ∙ sym of_side.0) first leads.0.ahead_of,
      behind-both a b s ys same of_b first of_side.1 leads.1,
    )

-- THE SUM OF THE FILLS

rising-without : (us vs : List Order) (o : Order) → Rising (us ++ o ∷ vs) → Rising (us ++ vs)
rising-without [] vs o rising = rising.1
rising-without (u ∷ us) vs o rising = (
  each-append (λ y. u.stamp < y.stamp) us vs (each-front (λ y. u.stamp < y.stamp) us (o ∷ vs) rising.0)
      (each-back (λ y. u.stamp < y.stamp) us (o ∷ vs) rising.0).1,
  rising-without us vs o rising.1,
)

-- behind the first one the others get what they get of what it leaves
fill-rest : (q : ℕ) (o x : Order) (us vs : List Order) → ahead o x ≡ true
    → fill q (us ++ o ∷ vs) x ≡ fill (q - leaves o) (us ++ vs) x
fill-rest q o x us vs leads = let more = ahead-more us vs o x leads in omega (arith, more)

-- the lesser of two, in two steps
lesser : (l q s : ℕ) → min l q + min (q - l) s ≡ min q (l + s)
lesser l q s = omega arith

sum-within : (n : ℕ) (side : Side) (q : ℕ) (queue : List Order) → length queue ≤ n → Rising queue
    → AllByRecursion (IsOf side) queue →
    sum_by (fill q queue) queue ≡ min q (sum_by leaves queue)
sum-within n side q [] few rising sides = omega arith
sum-within zero side q (o ∷ os) few rising sides = absurd (omega (arith, few))
sum-within (suc n) side q (o ∷ os) few rising sides =
    let best : Best (o ∷ os) = best-of side o os rising sides in
    let b : Order = best.order in
    let us : List Order = best.before in
    let vs : List Order = best.behind in
    let shorter : length (us ++ vs) ≤ n =
    omega (arith, few, ap length best.whole, length-append us (b ∷ vs), length-append us vs) in
    let sides_around : AllByRecursion (IsOf side) (us ++ b ∷ vs) =
    subst (AllByRecursion (IsOf side)) best.whole sides in
    let fewer : sum_by (fill (q - leaves b) (us ++ vs)) (us ++ vs) ≡ min (q - leaves b) (sum_by leaves (us ++ vs)) =
    sum-within n side (q - leaves b) (us ++ vs) shorter (rising-without us vs b (subst Rising best.whole rising))
    (each-append (IsOf side) us vs (each-front (IsOf side) us (b ∷ vs) sides_around)
    (each-back (IsOf side) us (b ∷ vs) sides_around).1) in
    let not_behind : (ys : List Order) → AllByRecursion (Leads b) ys → AllByRecursion (λ y. ahead y b ≡ false) ys =
    λ ys leads. each-map (Leads b) (λ y. ahead y b ≡ false) (λ y l. l.not_behind) ys leads in
    let first : fill q (us ++ b ∷ vs) b ≡ min (leaves b) q =
    fill-first q b us vs (ahead-self b) (not_behind us best.leads_before) (not_behind vs best.leads_behind) in
    let others : sum_by (fill q (us ++ b ∷ vs)) (us ++ vs) ≡ sum_by (fill (q - leaves b) (us ++ vs)) (us ++ vs) =
    same_sum (fill q (us ++ b ∷ vs)) (fill (q - leaves b) (us ++ vs)) (us ++ vs)
    (each-map (Leads b) (λ y. fill q (us ++ b ∷ vs) y ≡ fill (q - leaves b) (us ++ vs) y)
    (λ y l. fill-rest q b y us vs l.ahead_of) (us ++ vs)
    (each-append (Leads b) us vs best.leads_before best.leads_behind)) in
    let all = sum-middle (fill q (us ++ b ∷ vs)) us vs b in
    let whole = sum-middle leaves us vs b in
    let both : sum_by (fill q (us ++ b ∷ vs)) (us ++ b ∷ vs) ≡ min q (sum_by leaves (us ++ b ∷ vs)) =
    omega (arith, all, whole, first, others, fewer, lesser (leaves b) q (sum_by leaves (us ++ vs))) in
    subst (λ os. sum_by (fill q os) os ≡ min q (sum_by leaves os)) (sym best.whole) both

-- a queue fills as much as both sides have
pub sum-fills : (side : Side) (q : ℕ) (queue : List Order) → Rising queue → AllByRecursion (IsOf side) queue →
    sum_by (fill q queue) queue ≡ min q (sum_by leaves queue)
sum-fills side q queue rising sides = sum-within (length queue) side q queue (omega arith) rising sides

pub rising-filter : (p : Order → Bool) (xs : List Order) → Rising xs → Rising (filter p xs)
rising-filter p [] rising = tt
rising-filter p (x ∷ xs) rising = elim (p x) as (λ b. Rising (if b then x ∷ filter p xs else filter p xs)) [
  | true ↦ (each-filter (λ y. x.stamp < y.stamp) p xs rising.0, rising-filter p xs rising.1)
  | false ↦
      rising-filter p xs rising.1
]

-- the orders that an incoming one crosses fill as much as both sides have
pub sum-crossed : (i : Order) (orders : List Order) (q : ℕ) → Rising orders →
    sum_by (fill q (crossing i orders)) (crossing i orders) ≡ min q (sum_by leaves (crossing i orders))
sum-crossed i orders q rising = sum-fills (opposite i.side) q (crossing i orders)
    (rising-filter (crosses i) orders rising)
    (each-passes (IsOf (opposite i.side)) (crosses i) orders
    (each-of (λ x. crosses i x ≡ true → IsOf (opposite i.side) x) (crossed-side i) orders))

-- BOTH SIDES

-- the incoming order's CumQty grows by the sum of the fills
pub done-sum : (i : Order) (orders : List Order) → Rising orders
    → (done i orders).cum ≡ i.cum + min (leaves i) (sum_by leaves (crossing i orders))
done-sum i orders rising = let sum = sum-crossed i orders (leaves i) rising in omega (arith, sum)

-- the resting orders' too
abbrev cum_of : Order → ℕ
cum_of o = o.cum

abbrev notional_of : Order → ℕ
notional_of o = o.notional

settled-sum : (i : Order) (queue : List Order) (xs : List Order) →
    sum_by cum_of (map (settled i queue) xs) ≡ sum_by cum_of xs + sum_by (fill (leaves i) queue) (filter (crosses i) xs)
settled-sum i queue [] = refl
settled-sum i queue (x ∷ xs) =
    let more = settled-sum i queue xs in
    let after = sum_by-cons cum_of (settled i queue x) (map (settled i queue) xs) in
    let old = sum_by-cons cum_of x xs in
    let got = sum_by-cons (fill (leaves i) queue) x (filter (crosses i) xs) in
    after ∙ elim (crosses i x) as
    (λ b. (if b then after_fill (leaves i) queue x else x).cum + sum_by cum_of (map (settled i queue) xs)
    ≡ sum_by cum_of (x ∷ xs) + sum_by (fill (leaves i) queue)
    (if b then x ∷ filter (crosses i) xs else filter (crosses i) xs))
    [ true ↦ omega (arith, more, old, got) | false ↦ omega (arith, more, old) ]

settled-notional : (i : Order) (queue : List Order) (xs : List Order) →
    sum_by notional_of (map (settled i queue) xs) ≡ sum_by notional_of xs
    + sum_by (λ o. fill (leaves i) queue o * o.price) (filter (crosses i) xs)
settled-notional i queue [] = refl
settled-notional i queue (x ∷ xs) =
    let more = settled-notional i queue xs in
    let after = sum_by-cons notional_of (settled i queue x) (map (settled i queue) xs) in
    let old = sum_by-cons notional_of x xs in
    let got = sum_by-cons (λ o. fill (leaves i) queue o * o.price) x (filter (crosses i) xs) in
    after ∙ elim (crosses i x) as
    (λ b. (if b then after_fill (leaves i) queue x else x).notional + sum_by notional_of (map (settled i queue) xs)
    ≡ sum_by notional_of (x ∷ xs) + sum_by (λ o. fill (leaves i) queue o * o.price)
    (if b then x ∷ filter (crosses i) xs else filter (crosses i) xs))
    [ true ↦ omega (arith, more, old, got) | false ↦ omega (arith, more, old) ]

-- what one side gains the other gains
pub same-quantity : (i : Order) (orders : List Order) →
    sum_by (λ o. o.cum) (map (settled i (crossing i orders)) orders) + i.cum
    ≡ sum_by (λ o. o.cum) orders + (done i orders).cum
same-quantity i orders = let sum = settled-sum i (crossing i orders) orders in omega (arith, sum)

pub same-money : (i : Order) (orders : List Order) →
    sum_by (λ o. o.notional) (map (settled i (crossing i orders)) orders) + i.notional
    ≡ sum_by (λ o. o.notional) orders + (done i orders).notional
same-money i orders = let sum = settled-notional i (crossing i orders) orders in omega (arith, sum)

-- NONE OVER ITS TOTAL

settled-within : (i : Order) (queue : List Order) (o : Order) → o.cum ≤ o.total
    → (settled i queue o).cum ≤ (settled i queue o).total
settled-within i queue o within = elim (crosses i o) as
    (λ b. (if b then after_fill (leaves i) queue o else o).cum ≤ (if b then after_fill (leaves i) queue o else o).total)
    [ true ↦ omega (arith, within) | false ↦ within ]

pub orders-within : (i : Order) (orders : List Order) → AllByRecursion (λ o. o.cum ≤ o.total) orders →
    AllByRecursion (λ o. o.cum ≤ o.total) (map (settled i (crossing i orders)) orders)
orders-within i orders within = each-mapped (λ o. o.cum ≤ o.total) (λ o. o.cum ≤ o.total)
    (settled i (crossing i orders))
    (settled-within i (crossing i orders)) orders within

pub done-within : (i : Order) (orders : List Order) → Rising orders → i.cum ≤ i.total → (done i orders).cum ≤ i.total
done-within i orders rising within = let sum = done-sum i orders rising in omega (arith, sum, within)
