-- The order that is listed next: the one behind it in its group, or else the first of the later groups.
use Rattle.std.proofs.Common.{◌≡◌, ℕ, ◌+◌, ◌*◌, ◌/◌, ◌%◌, ◌<◌, ◌≤◌, Bool, true, false, ◌&&◌, ◌||◌, nat_eq, nat_lt, List}
use Rattle.std.proofs.Common.{[], ◌∷◌, ◌++◌, length, get_or, refl, ap, sym, subst, ◌∙◌, arith, length-append, Option}
use Rattle.std.proofs.Common.{Some, None}
use Rattle.std.proofs.Math.Seq.{get_or-append_seam}
use Rattle.std.specs.Prelude.{◌≢◌, find, if◌then◌else◌}
use Rattle.std.specs.List.{AllByRecursion, Contains, list_any}
use Rattle.std.specs.Str.{bytes_eq}
use Rattle.std.proofs.lemmas.Bool.Decides.{nat_tests}
use Rattle.venue_model.specs.declared.orders.Side.{Side}
use Rattle.venue_model.specs.declared.orders.Side.TheVariants.{Buy, Sell}
use Rattle.venue_model.specs.declared.orders.Order.{Order}
use Rattle.venue_model.specs.Orders.{is_better, ahead}
use Rattle.venue_model.specs.Requests.{Symbols, is_named}
use Rattle.venue_model.specs.Spelling.{all_differ}
use Rattle.book.specs.Queues.{is_of, NoneQueuedOf, IsFirst, NoneQueuedBehind, IsQueuedNext}
use Rattle.book.specs.Books.{NamedApart}
use Rattle.book.specs.Next.{side_order, symbol_number, group_of, comes_before, comes_behind, InTable, IsListedNext}
use Rattle.book.specs.Next.{NextOf, IsFirstFrom, FirstFrom}
use Rattle.book.proofs.Lists.{each-map, each-of, each-back}
use Rattle.book.proofs.LawPriority.{Split, split-at}
use Rattle.book.proofs.GroupLemmas.{group-parts, group-below, IsGroup, group-at, group-own}

-- TWO ORDERS

pub listed-less : (n m : ℕ) (b : Bool) → n < m → (nat_lt n m || (nat_eq n m && b)) ≡ true
listed-less n m b less = grind (arith, nat_tests)

pub listed-tie : (n m : ℕ) (b : Bool) → n ≡ m → b ≡ true → (nat_lt n m || (nat_eq n m && b)) ≡ true
listed-tie n m b same h = grind (arith, nat_tests)

listed-not : (n m : ℕ) (b : Bool) → m ≤ n → (n ≡ m → b ≡ false) → (nat_lt n m || (nat_eq n m && b)) ≡ false
listed-not n m true within none = let less : m < n = (grind arith) in grind (arith, nat_tests)
listed-not n m false within none = grind (arith, nat_tests)

listed-from : (n m : ℕ) (b : Bool) → (nat_lt n m || (nat_eq n m && b)) ≡ true → n ≤ m
listed-from n m b h = grind (arith, nat_tests)

listed-by : (n m : ℕ) (b : Bool) → (nat_lt n m || (nat_eq n m && b)) ≡ true → n ≡ m → b ≡ true
listed-by n m b h same = grind (arith, nat_tests)

-- of one side, one that is ahead of another isn't behind it
abbrev pub leads : Side → ℕ → ℕ → ℕ → ℕ → Bool
leads a p s q t = is_better a p q || (nat_eq p q && nat_lt s t)

leads-self : (a : Side) (p s : ℕ) → leads a p s p s ≡ false
leads-self Buy p s = grind (arith, nat_tests)
leads-self Sell p s = grind (arith, nat_tests)

leads-not : (a : Side) (p s q t : ℕ) → leads a p s q t ≡ true → leads a q t p s ≡ false
leads-not Buy p s q t h = grind (arith, nat_tests)
leads-not Sell p s q t h = grind (arith, nat_tests)

module _ (ss : Symbols) (a b : Order) where
  not-before : group_of ss b ≤ group_of ss a → (group_of ss a ≡ group_of ss b → ahead a b ≡ false) →
      comes_before ss a b ≡ false
  not-before = listed-not (group_of ss a) (group_of ss b) (ahead a b)

  pub from-group : comes_before ss a b ≡ true → group_of ss a ≤ group_of ss b
  from-group = listed-from (group_of ss a) (group_of ss b) (ahead a b)

  pub by-priority : comes_before ss a b ≡ true → group_of ss a ≡ group_of ss b → ahead a b ≡ true
  by-priority = listed-by (group_of ss a) (group_of ss b) (ahead a b)

module _ (ss : Symbols) where
  pub before-self : (a : Order) → comes_before ss a a ≡ false
  before-self a = not-before ss a a (omega arith) (λ same. leads-self a.side a.price a.stamp)

  -- one that comes before another doesn't come behind it
  pub before-not : (a b : Order) → comes_before ss a b ≡ true → comes_before ss b a ≡ false
  before-not a b h = not-before ss b a (from-group ss a b h)
      (λ same.
      let parts = group-parts (symbol_number ss b.symbol) (symbol_number ss a.symbol) b.side a.side same in
      let leads_it = by-priority ss a b h (sym same) in
      ap (λ t. leads t b.price b.stamp a.price a.stamp) parts.1
      ∙ leads-not a.side a.price a.stamp b.price b.stamp leads_it)

-- ORDERS OF A LIST

pub stands-in : (xs ys : List Order) (x : Order) → Contains (xs ++ x ∷ ys) x
stands-in xs ys x = (length xs, omega (arith, length-append xs (x ∷ ys)), get_or-append_seam xs x ys x)

stands : (orders before behind : List Order) (x : Order) → orders ≡ before ++ x ∷ behind → Contains orders x
stands orders before behind x split = subst (λ os. Contains os x) (sym split) (stands-in before behind x)

-- what follows of each from two facts
each-two : (P Q R : Order → Type 0) → ((x : Order) → P x → Q x → R x) →
    (xs : List Order) → AllByRecursion P xs → AllByRecursion Q xs → AllByRecursion R xs
each-two P Q R f [] all also = tt
each-two P Q R f (x ∷ xs) all also = (f x all.0 also.0, each-two P Q R f xs all.1 also.1)

-- an order has its own name, and one that is named otherwise hasn't
pub named-self : (o : Order) → is_named o.client o.cl_ord_id o ≡ true
named-self o = grind (arith, nat_tests)

pub named-other : (o x : Order) → is_named x.client x.cl_ord_id o ≡ false → is_named o.client o.cl_ord_id x ≡ false
named-other o x h = grind (arith, nat_tests)

named-in : (before behind : List Order) (o : Order) → NamedApart (before ++ o ∷ behind) →
    find (is_named o.client o.cl_ord_id) (before ++ o ∷ behind) ≡ Some o
named-in [] behind o apart = ap (λ b. if b then Some o else find (is_named o.client o.cl_ord_id) behind) (named-self o)
named-in (x ∷ before) behind o apart =
    let differs = (each-back (λ y. is_named x.client x.cl_ord_id y ≡ false) before (o ∷ behind) apart.0).0 in
    ap (λ b. if b then Some x else find (is_named o.client o.cl_ord_id) (before ++ o ∷ behind))
    (named-other o x differs)
    ∙ named-in before behind o apart.1

-- an order that rests is found by its own name
pub named-itself : (orders : List Order) (o : Order) → NamedApart orders → Contains orders o →
    find (is_named o.client o.cl_ord_id) orders ≡ Some o
named-itself orders o apart there =
    let split : Split orders o = split-at orders o there in
    ap (find (is_named o.client o.cl_ord_id)) split.whole
    ∙ named-in split.before split.behind o (subst NamedApart split.whole apart)

-- what holds of each order holds of one that is found
found-has : (P : Order → Type 0) (t : Order → Bool) (orders : List Order) (o : Order) → AllByRecursion P orders →
    find t orders ≡ Some o → P o
found-has P t [] o all found = absurd (let e : None ≡ Some o = found in cc)
found-has P t (x ∷ orders) o all found = elim (t x) as (λ b. (if b then Some x else find t orders) ≡ Some o → P o) [
  | true ↦ λ h. subst P (let e : Some x ≡ Some o = h in cc) all.0
  | false ↦ λ h. found-has P t orders o all.1 h
] found

module _ (ss : Symbols) (orders : List Order) where
  -- THE FIRST FROM A GROUP ON

  -- if it is of this group or a later one, it isn't of those so far
  abbrev pub Later : ℕ → ℕ → Order → Type 0
  Later from group x = from ≤ group_of ss x → group ≤ group_of ss x

  abbrev pub NoneUpTo : ℕ → ℕ → Type 0
  NoneUpTo from group = AllByRecursion (Later from group) orders

  pub none-yet : (from : ℕ) → NoneUpTo from from
  none-yet from = each-of (Later from from) (λ x h. h) orders

  module _ (from group : ℕ) (so_far : NoneUpTo from group) where
    module _ (differ : all_differ ss ≡ true) (within : group < 2 * length ss) (symbol : List ℕ) (side : Side)
        (at : symbol ≡ get_or ss (group / 2) symbol) (its_side : side_order side ≡ group % 2) where
      is : IsGroup ss symbol side group
      is = group-at ss differ group symbol side within at its_side

      pub none-here : NoneQueuedOf symbol side orders → NoneUpTo from (group + 1)
      none-here none = each-two (λ x. is_of symbol side x ≡ false) (Later from group) (Later from (group + 1))
          (λ x not_its later h.
          let reached = later h in
          let other : group_of ss x ≢ group = λ same. let its = is.only x same in cc in
          omega (arith, reached, other))
          orders none so_far

      pub first-here : from ≤ group → (o : Order) → IsFirst symbol side orders o → IsFirstFrom ss from orders o
      first-here begun o its =
          let own = is.has o its.its in
          record {
            there = stands orders its.before its.behind o its.split;
            its = omega (arith, begun, own);
            first = each-two (λ x. is_of symbol side x ≡ true → ahead x o ≡ false) (Later from group)
                (λ x. from ≤ group_of ss x → comes_before ss x o ≡ false)
                (λ x not_ahead later h.
                let reached = later h in
                not-before ss x o (omega (arith, reached, own)) (λ same. not_ahead (is.only x (same ∙ own))))
                orders its.first so_far;
          }

    -- the last group is passed
    pub none-left : InTable ss orders → 2 * length ss ≤ group → FirstFrom ss from orders None
    none-left known done = each-two (λ x. list_any (bytes_eq x.symbol) ss ≡ true) (Later from group)
        (λ x. group_of ss x < from) (λ x among later. early (group_of ss x) (group-below ss x among) later)
        orders known so_far
      where
        early : (n : ℕ) → n < 2 * length ss → (from ≤ n → group ≤ n) → n < from
        early n below reached = grind (arith, done)

  -- THE NEXT

  -- the first of all
  pub next-of-all : (next : Option Order) → FirstFrom ss 0 orders next → NextOf ss None orders next
  next-of-all None none = each-map (λ x. group_of ss x < 0) (λ x. comes_behind ss None x ≡ false)
      (λ x below. absurd (omega (arith, below))) orders none
  next-of-all (Some n) first = record {
    there = first.there;
    behind = refl;
    first = each-map (λ x. 0 ≤ group_of ss x → comes_before ss x n ≡ false)
        (λ x. comes_behind ss None x ≡ true → comes_before ss x n ≡ false) (λ x h k. h (omega arith))
        orders first.first;
  }

  -- behind an order that is found by its name
  module _ (differ : all_differ ss ≡ true) (known : InTable ss orders) (client name : ℕ) (o : Order)
      (found : find (is_named client name) orders ≡ Some o) where
    in_table : list_any (bytes_eq o.symbol) ss ≡ true
    in_table = found-has (λ x. list_any (bytes_eq x.symbol) ss ≡ true) (is_named client name) orders o known found

    own : IsGroup ss o.symbol o.side (group_of ss o)
    own = group-own ss differ o in_table

    pub found-below : group_of ss o < 2 * length ss
    found-below = group-below ss o in_table

    -- the one behind it in its group
    pub next-in-group : (n : Order) → IsQueuedNext orders o n → IsListedNext ss (Some o) orders n
    next-in-group n next =
        let same = own.has n next.its in
        record {
          there = stands orders next.before next.behind n next.split;
          behind = listed-tie (group_of ss o) (group_of ss n) (ahead o n) (sym same) next.stands_behind;
          first = each-map (λ x. is_of o.symbol o.side x ≡ true → ahead o x ≡ true → ahead x n ≡ false)
              (λ x. comes_before ss o x ≡ true → comes_before ss x n ≡ false)
              (λ x not_ahead behind.
              let later = from-group ss o x behind in
              not-before ss x n (omega (arith, later, same))
              (λ tie. not_ahead (own.only x (tie ∙ same)) (by-priority ss o x behind (sym (tie ∙ same)))))
              orders next.first;
        }

    -- it is the last of its group
    abbrev NotBehind : Order → Type 0
    NotBehind x = is_of o.symbol o.side x ≡ true → ahead o x ≡ false

    pub next-of-later : NoneQueuedBehind orders o →
        (next : Option Order) → FirstFrom ss (group_of ss o + 1) orders next → NextOf ss (Some o) orders next
    next-of-later last None none = each-two NotBehind (λ x. group_of ss x < group_of ss o + 1)
        (λ x. comes_before ss o x ≡ false)
        (λ x not_behind below. not-before ss o x (omega (arith, below)) (λ same. not_behind (own.only x (sym same))))
        orders last none
    next-of-later last (Some n) first =
        let later = first.its in
        record {
          there = first.there;
          behind = listed-less (group_of ss o) (group_of ss n) (ahead o n) (omega (arith, later));
          first = each-two NotBehind (λ x. group_of ss o + 1 ≤ group_of ss x → comes_before ss x n ≡ false)
              (λ x. comes_before ss o x ≡ true → comes_before ss x n ≡ false)
              (λ x not_behind not_before behind.
              let from = from-group ss o x behind in
              let other : group_of ss o ≢ group_of ss x =
              λ same. let none = not_behind (own.only x (sym same)) in let it = by-priority ss o x behind same in cc in
              not_before (omega (arith, from, other)))
              orders last first.first;
        }
