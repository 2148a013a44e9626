-- The resting orders never cross: what a match leaves, and what comes to rest behind it.
use Rattle.std.proofs.Common.{◌≡◌, ℕ, ◌-◌, ◌<◌, ◌≤◌, Bool, true, false, ◌&&◌, List, [], ◌∷◌, ◌++◌, map, refl, ap, sym}
use Rattle.std.proofs.Common.{subst, ◌∙◌, arith, append-nil}
use Rattle.std.specs.Prelude.{sum_by, filter, slice_index, if◌then◌else◌}
use Rattle.std.specs.List.{AllByRecursion}
use Rattle.std.specs.Str.{bytes_eq}
use Rattle.std.proofs.lemmas.List.Sums.{sum_by-cons}
use Rattle.std.proofs.lemmas.Slice.Eq.{bytes_eq-Decides}
use Rattle.std.proofs.lemmas.Bool.Decides.{nat_tests, same_from_decides, Decides-like}
use Rattle.venue_model.specs.declared.orders.Side.{Side}
use Rattle.venue_model.specs.declared.orders.Side.TheVariants.{Buy, Sell}
use Rattle.venue_model.specs.declared.orders.Order.{Order}
use Rattle.venue_model.specs.declared.commands.TimeInForce.{TimeInForce}
use Rattle.venue_model.specs.declared.commands.TimeInForce.TheVariants.{Day, ImmediateOrCancel, FillOrKill}
use Rattle.venue_model.specs.Orders.{leaves, is_live, crosses, meets}
use Rattle.venue_model.specs.Match.{crossing, filled, fill, after_fill, settled, done, rest, can_fill, matched}
use Rattle.venue_model.specs.Requests.{is_named}
use Rattle.book.specs.Standing.{Rising}
use Rattle.book.specs.Laws.{Pairwise, RestBeside, CanRest, IsUncrossed}
use Rattle.book.proofs.Lists.{same_map, each-append, each-map, each-of, each-passes}
use Rattle.book.proofs.Passes.{filled-none}
use Rattle.book.proofs.LawPairs.{each-both, each-tested, each-mapped, pairs-filter, pairs-push, pairs-map}
use Rattle.book.proofs.LawSums.{sum-crossed}

-- CROSSING IS OF BOTH

bytes-mirror : (xs ys : List ℕ) → bytes_eq xs ys ≡ bytes_eq ys xs
bytes-mirror xs ys = same_from_decides (bytes_eq xs ys) (bytes_eq ys xs) (bytes_eq-Decides xs ys)
    (Decides-like (bytes_eq ys xs) (λ h. sym h) (λ h. sym h) (bytes_eq-Decides ys xs))

meets-mirror : (s : Side) (p : ℕ) (t : Side) (q : ℕ) → meets s p t q ≡ meets t q s p
meets-mirror Buy p Buy q = refl
meets-mirror Buy p Sell q = refl
meets-mirror Sell p Buy q = refl
meets-mirror Sell p Sell q = refl

crosses-mirror : (a b : Order) → crosses a b ≡ crosses b a
crosses-mirror a b = ap (λ t. t && meets a.side a.price b.side b.price) (bytes-mirror a.symbol b.symbol)
    ∙ ap (λ t. bytes_eq b.symbol a.symbol && t) (meets-mirror a.side a.price b.side b.price)

and-false : (t : Bool) → (t && false) ≡ false
and-false true = refl
and-false false = refl

meets-self : (s : Side) (p : ℕ) → meets s p s p ≡ false
meets-self Buy p = refl
meets-self Sell p = refl

crosses-self : (a : Order) → crosses a a ≡ false
crosses-self a = ap (λ t. bytes_eq a.symbol a.symbol && t) (meets-self a.side a.price)
    ∙ and-false (bytes_eq a.symbol a.symbol)

-- orders of which none crosses a later one: none crosses another
pub uncrossed : (os : List Order) → Pairwise RestBeside os → IsUncrossed os
uncrossed [] pairs = tt
uncrossed (o ∷ os) pairs = (
  (crosses-self o, each-map (RestBeside o) (λ b. crosses o b ≡ false) (λ b beside. beside.uncrossed) os pairs.0),
  each-both (λ a. crosses a o ≡ false) (λ a. AllByRecursion (λ b. crosses a b ≡ false) os) os
      (each-map (RestBeside o) (λ a. crosses a o ≡ false) (λ a beside. crosses-mirror a o ∙ beside.uncrossed) os
      pairs.0) (uncrossed os pairs.1),
)

pub rising-pairs : (os : List Order) → Pairwise RestBeside os → Rising os
rising-pairs [] pairs = tt
rising-pairs (o ∷ os) pairs = (
  each-map (RestBeside o) (λ x. o.stamp < x.stamp) (λ x beside. beside.earlier) os pairs.0,
  rising-pairs os pairs.1,
)

-- WHAT A MATCH LEAVES

-- an order after a match is that order with a fill, maybe of nothing
abbrev taken : Order → List Order → Order → ℕ
taken i queue o = if crosses i o then fill (leaves i) queue o else 0

abbrev after : Order → List Order → Order → Order
after i queue o = filled o (taken i queue o) o.price

settled-after : (i : Order) (queue : List Order) (o : Order) → settled i queue o ≡ after i queue o
settled-after i queue o = elim (crosses i o) as
    (λ b. (if b then after_fill (leaves i) queue o else o)
    ≡ filled o (if b then fill (leaves i) queue o else 0) o.price)
    [ true ↦ refl | false ↦ sym (filled-none o 0 o.price refl) ]

rest-after : (i : Order) (orders : List Order) → rest i orders
    ≡ filter is_live (map (after i (crossing i orders)) orders)
rest-after i orders = ap (filter is_live) (same_map (settled i (crossing i orders)) (after i (crossing i orders)) orders
    (each-of (λ o. settled i (crossing i orders) o ≡ after i (crossing i orders) o)
    (settled-after i (crossing i orders)) orders))

-- two functions, one nowhere above the other, with one sum
sum-below : (f g : Order → ℕ) → ((x : Order) → f x ≤ g x) → (xs : List Order) → sum_by f xs ≤ sum_by g xs
sum-below f g below [] = omega arith
sum-below f g below (x ∷ xs) =
    let of_f = sum_by-cons f x xs in
    let of_g = sum_by-cons g x xs in
    omega (arith, of_f, of_g, below x, sum-below f g below xs)

sum-tight : (f g : Order → ℕ) → ((x : Order) → f x ≤ g x) → (xs : List Order) → sum_by f xs ≡ sum_by g xs
    → AllByRecursion (λ x. f x ≡ g x) xs
sum-tight f g below [] same = tt
sum-tight f g below (x ∷ xs) same =
    let of_f = sum_by-cons f x xs in
    let of_g = sum_by-cons g x xs in
    let here = below x in
    let others = sum-below f g below xs in (
      omega (arith, of_f, of_g, here, others, same),
      sum-tight f g below xs
          (omega (arith, of_f, of_g, here, others, same)),
    )

dead : (o : Order) (n p : ℕ) → n ≡ leaves o → is_live (filled o n p) ≡ false
dead o n p whole = grind (arith, nat_tests)

live : (o : Order) → is_live o ≡ true → o.cum < o.total
live o h = grind (arith, nat_tests)

module _ (i : Order) (orders : List Order) where
  -- what holds of an order whatever is filled of it
  pub rest-keeps : (P Q : Order → Type 0)
      → ((x : Order) (n : ℕ) → P x → is_live (filled x n x.price) ≡ true → Q (filled x n x.price)) →
      AllByRecursion P orders → AllByRecursion Q (rest i orders)
  rest-keeps P Q keeps all = subst (AllByRecursion Q) (sym (rest-after i orders))
      (each-passes Q is_live (map (after i (crossing i orders)) orders)
      (each-mapped P (λ x. is_live x ≡ true → Q x) (after i (crossing i orders))
      (λ x h. keeps x (taken i (crossing i orders) x) h) orders all))

  rest-pairs : Pairwise RestBeside orders → Pairwise RestBeside (rest i orders)
  rest-pairs pairs = subst (Pairwise RestBeside) (sym (rest-after i orders))
      (pairs-filter RestBeside is_live (map (after i (crossing i orders)) orders)
      (pairs-map RestBeside (λ x. Unit {0}) (after i (crossing i orders))
      (λ a b _ _ beside. record { earlier = beside.earlier; apart = beside.apart; uncrossed = beside.uncrossed }) orders
      (each-of (λ x. Unit {0}) (λ x. tt) orders) pairs))

  -- where something is left of the incoming order, all that it crosses is filled whole
  all-filled : Rising orders → is_live (done i orders) ≡ true
      → AllByRecursion (λ x. crosses i x ≡ true → fill (leaves i) (crossing i orders) x ≡ leaves x) orders
  all-filled rising some =
      let queue : List Order = crossing i orders in
      let sum = sum-crossed i orders (leaves i) rising in
      let left = live (done i orders) some in
      each-tested (λ x. fill (leaves i) queue x ≡ leaves x) (crosses i) orders
      (sum-tight (fill (leaves i) queue) leaves (λ x. omega arith) queue (omega (arith, sum, left)))

  rest-uncrossed : Rising orders → is_live (done i orders) ≡ true
      → AllByRecursion (λ x. crosses i x ≡ false) (rest i orders)
  rest-uncrossed rising some = subst (AllByRecursion (λ x. crosses i x ≡ false)) (sym (rest-after i orders))
      (each-passes (λ x. crosses i x ≡ false) is_live (map (after i (crossing i orders)) orders)
      (each-mapped (λ x. crosses i x ≡ true → fill (leaves i) (crossing i orders) x ≡ leaves x)
      (λ x. is_live x ≡ true → crosses i x ≡ false)
      (after i (crossing i orders)) gone orders (all-filled rising some)))
    where
      gone : (x : Order) → (crosses i x ≡ true → fill (leaves i) (crossing i orders) x ≡ leaves x)
          → is_live (after i (crossing i orders) x) ≡ true → crosses i x ≡ false
      gone x whole = elim (crosses i x) as
          (λ b. (b ≡ true → fill (leaves i) (crossing i orders) x ≡ leaves x) →
          is_live (filled x (if b then fill (leaves i) (crossing i orders) x else 0) x.price) ≡ true → b ≡ false) [
            | true ↦ λ h alive. let never : true ≡ false = sym alive
                ∙ dead x (fill (leaves i) (crossing i orders) x) x.price (h refl) in
                cc
            | false ↦ λ h alive. refl
          ] whole

-- WHAT RESTS BEHIND IT

-- an order may come in behind another: later, and not under its name
pub record ComesBehind (i x : Order) : Type 0 where
  pub earlier : x.stamp < i.stamp
  pub apart : is_named x.client x.cl_ord_id i ≡ false

module _ (i : Order) (orders : List Order) (pairs : Pairwise RestBeside orders) where
  beside-done : is_live (done i orders) ≡ true → AllByRecursion (ComesBehind i) orders
      → AllByRecursion (λ x. RestBeside x (done i orders)) (rest i orders)
  beside-done some behind = each-map (λ x. ComesBehind i x × (crosses i x ≡ false)) (λ x. RestBeside x (done i orders))
      (λ x h. record { earlier = h.0.earlier; apart = h.0.apart; uncrossed = crosses-mirror x i ∙ h.1 }) (rest i orders)
      (each-both (ComesBehind i) (λ x. crosses i x ≡ false) (rest i orders)
      (rest-keeps i orders (ComesBehind i) (ComesBehind i)
      (λ x n h alive. record { earlier = h.earlier; apart = h.apart }) behind)
      (rest-uncrossed i orders (rising-pairs orders pairs) some))

  pub matched-pairs : (t : TimeInForce) → AllByRecursion (ComesBehind i) orders
      → Pairwise RestBeside (matched t i orders)
  matched-pairs Day behind = elim (is_live (done i orders)) as
      (λ b. is_live (done i orders) ≡ b
      → Pairwise RestBeside (rest i orders ++ (if b then done i orders ∷ [] else []))) [
        | true ↦ λ some. pairs-push RestBeside (rest i orders) (done i orders) (rest-pairs i orders pairs)
            (beside-done some behind)
        | false ↦ λ none. rw append-nil (rest-pairs i orders pairs)
      ] refl
  matched-pairs ImmediateOrCancel behind = rest-pairs i orders pairs
  matched-pairs FillOrKill behind =
      elim (can_fill i orders) as (λ b. Pairwise RestBeside (if b then rest i orders else orders))
      [ true ↦ rest-pairs i orders pairs | false ↦ pairs ]

-- an incoming order that can rest, but for what is left of it
pub record CanCome (sequence : ℕ) (greatest : List ℕ) (i : Order) : Type 0 where
  pub before : i.stamp < sequence
  pub from : 1 ≤ i.client
  pub to : i.client ≤ 8
  pub name : i.cl_ord_id ≤ slice_index greatest (i.client - 1)

module _ (sequence : ℕ) (greatest : List ℕ) (i : Order) (orders : List Order)
    (each : AllByRecursion (CanRest sequence greatest) orders) where
  rest-each : AllByRecursion (CanRest sequence greatest) (rest i orders)
  rest-each = rest-keeps i orders (CanRest sequence greatest) (CanRest sequence greatest)
      (λ x n h alive. record {
        before = h.before;
        from = h.from;
        to = h.to;
        name = h.name;
        live = live (filled x n x.price) alive;
      }) each

  pub matched-each : (t : TimeInForce) → CanCome sequence greatest i
      → AllByRecursion (CanRest sequence greatest) (matched t i orders)
  matched-each Day comes = elim (is_live (done i orders)) as
      (λ b. is_live (done i orders) ≡ b → AllByRecursion (CanRest sequence greatest)
      (rest i orders ++ (if b then done i orders ∷ [] else []))) [
        | true ↦ λ some. each-append (CanRest sequence greatest) (rest i orders) (done i orders ∷ []) rest-each (
          record {
            before = comes.before;
            from = comes.from;
            to = comes.to;
            name = comes.name;
            live = live (done i orders) some;
          },
          tt,
        )
        | false ↦ λ none. rw append-nil rest-each
      ] refl
  matched-each ImmediateOrCancel comes = rest-each
  matched-each FillOrKill comes =
      elim (can_fill i orders) as (λ b. AllByRecursion (CanRest sequence greatest)
      (if b then rest i orders else orders))
      [ true ↦ rest-each | false ↦ each ]
