-- The listing stands in the order of groups and priority: each order comes before all that follow.
use Rattle.std.proofs.Common.{◌≡◌, ℕ, ◌+◌, Bool, true, false, ◌&&◌, ◌||◌, nat_eq, nat_lt, List, [], ◌∷◌, ◌++◌, refl, ap}
use Rattle.std.proofs.Common.{sym, ◌∙◌, arith}
use Rattle.std.specs.Prelude.{filter}
use Rattle.std.specs.List.{AllByRecursion, list_any}
use Rattle.std.specs.Str.{bytes_eq}
use Rattle.std.proofs.lemmas.Bool.Decides.{nat_tests}
use Rattle.std.proofs.lemmas.Slice.Eq.{bytes_eq-Decides}
use Rattle.venue_model.specs.declared.orders.Side.{Side}
use Rattle.venue_model.specs.declared.orders.Side.TheVariants.{Buy, Sell}
use Rattle.venue_model.specs.declared.orders.Order.{Order}
use Rattle.venue_model.specs.Orders.{ahead}
use Rattle.venue_model.specs.Requests.{Symbols}
use Rattle.venue_model.specs.Spelling.{all_differ}
use Rattle.book.specs.Standing.{Pairwise, IsEarlier, InTime}
use Rattle.book.specs.Listing.{is_of, queue, listing}
use Rattle.book.specs.Next.{side_order, group_of, comes_before}
use Rattle.book.proofs.Lists.{each-append, each-map, each-of, each-passes}
use Rattle.book.proofs.Priority.{each-by_priority}
use Rattle.book.proofs.LawPairs.{each-both, pairs-filter}
use Rattle.book.proofs.LawOrder.{Ahead, Later, in_order}
use Rattle.book.proofs.GroupLemmas.{Of, of-test, differ-parts, side-below, group-first, group-later}
use Rattle.book.proofs.NextLemmas.{listed-less, listed-tie}

pub same-bytes : (a b c : List ℕ) → bytes_eq a b ≡ true → bytes_eq b c ≡ false → bytes_eq a c ≡ false
same-bytes a b c h k = ap (λ x. bytes_eq x c) ((bytes_eq-Decides a b).0 h) ∙ k

-- PAIRS

module _ (R : Order → Order → Type 0) where
  pairs-append : (xs ys : List Order) → Pairwise R xs → Pairwise R ys → AllByRecursion (λ x. AllByRecursion (R x) ys) xs
      → Pairwise R (xs ++ ys)
  pairs-append [] ys pairs more between = more
  pairs-append (x ∷ xs) ys pairs more between = (
    each-append (R x) xs ys pairs.0 between.0,
    pairs-append xs ys pairs.1 more between.1,
  )

  -- what follows for each pair of a list, of whose elements P holds
  pub pairs-weaker : (Q : Order → Order → Type 0) (P : Order → Type 0) → ((a b : Order) → P a → P b → R a b → Q a b) →
      (xs : List Order) → AllByRecursion P xs → Pairwise R xs → Pairwise Q xs
  pairs-weaker Q P f [] all pairs = tt
  pairs-weaker Q P f (x ∷ xs) all pairs = (
    each-map (λ y. P y × R x y) (Q x) (λ y h. f x y all.0 h.0 h.1) xs (each-both P (R x) xs all.1 pairs.0),
    pairs-weaker Q P f xs all.1 pairs.1,
  )

-- of two lists, where it holds of each and each
each-each : (R : Order → Order → Type 0) (P Q : Order → Type 0) → ((a b : Order) → P a → Q b → R a b) →
    (xs ys : List Order) → AllByRecursion P xs → AllByRecursion Q ys → AllByRecursion (λ x. AllByRecursion (R x) ys) xs
each-each R P Q f xs ys all also = each-map P (λ x. AllByRecursion (R x) ys)
    (λ x p. each-map Q (R x) (λ y q. f x y p q) ys also) xs all

-- ONE QUEUE

module _ (orders : List Order) where
  each-test : (symbol : List ℕ) (side : Side) → AllByRecursion (Of symbol side) (filter (is_of symbol side) orders)
  each-test symbol side = each-passes (Of symbol side) (is_of symbol side) orders
      (each-of (λ x. is_of symbol side x ≡ true → Of symbol side x) (of-test symbol side) orders)

  each-queue : (symbol : List ℕ) (side : Side) → AllByRecursion (Of symbol side) (queue symbol side orders)
  each-queue symbol side = each-by_priority (Of symbol side) (filter (is_of symbol side) orders) (each-test symbol side)

  one-queue : (symbol : List ℕ) (side : Side) (a b : Order) → Of symbol side a → Of symbol side b → IsEarlier a b
      → Later a b
  one-queue symbol side a b p q earlier = record {
    side = p.side ∙ sym q.side;
    stamp = λ same. earlier (record {
      symbol = (bytes_eq-Decides b.symbol symbol).0 q.symbol ∙ sym ((bytes_eq-Decides a.symbol symbol).0 p.symbol);
      side = q.side ∙ sym p.side;
      price = sym same;
    });
  }

  queue-in_order : InTime orders → (symbol : List ℕ) (side : Side) → Pairwise Ahead (queue symbol side orders)
  queue-in_order in_time symbol side = in_order (filter (is_of symbol side) orders)
      (pairs-weaker IsEarlier Later (Of symbol side) (one-queue symbol side) (filter (is_of symbol side) orders)
      (each-test symbol side) (pairs-filter IsEarlier (is_of symbol side) orders in_time))

  -- what holds of each order of the listing
  each-listing : (P : Order → Type 0) (ss : Symbols) → AllByRecursion
      (λ s. (x : Order) → bytes_eq x.symbol s ≡ true → P x) ss → AllByRecursion P (listing ss orders)
  each-listing P [] all = tt
  each-listing P (s ∷ ss) all =
      let of_side : (side : Side) → AllByRecursion P (queue s side orders) =
      λ side. each-map (Of s side) P (λ x h. all.0 x h.symbol) (queue s side orders) (each-queue s side) in
      each-append P (queue s Buy orders ++ queue s Sell orders) (listing ss orders)
      (each-append P (queue s Buy orders) (queue s Sell orders) (of_side Buy) (of_side Sell)) (each-listing P ss all.1)

  -- orders of symbols that differ from one aren't of that one
  each-other : (s : List ℕ) (ss : Symbols) → list_any (λ other. bytes_eq other s) ss ≡ false →
      AllByRecursion (λ other. (x : Order) → bytes_eq x.symbol other ≡ true → bytes_eq x.symbol s ≡ false) ss
  each-other s [] none = tt
  each-other s (other ∷ ss) none = elim (bytes_eq other s) as (λ b. bytes_eq other s ≡ b
      → (b || list_any (λ other. bytes_eq other s) ss) ≡ false →
      AllByRecursion (λ other. (x : Order) → bytes_eq x.symbol other ≡ true
      → bytes_eq x.symbol s ≡ false) (other ∷ ss)) [
        | true ↦ λ h k. cc
        | false ↦ λ h k. ((λ x is. same-bytes x.symbol other s is h), each-other s ss k)
      ] refl none

-- THE LISTING

abbrev pub Before : Symbols → Order → Order → Type 0
Before ss a b = comes_before ss a b ≡ true

listed-more : (n m k l : ℕ) (b : Bool) → k ≡ 2 + n → l ≡ 2 + m →
    (nat_lt n m || (nat_eq n m && b)) ≡ true → (nat_lt k l || (nat_eq k l && b)) ≡ true
listed-more n m k l b up also h = grind (arith, nat_tests)

module _ (s : List ℕ) (ss : Symbols) where
  abbrev group : Order → ℕ
  group o = group_of (s ∷ ss) o

  of-first : (side : Side) (o : Order) → Of s side o → group o ≡ side_order side
  of-first side o its = group-first s ss o its.symbol ∙ ap side_order its.side

  -- of the first symbol, by side and priority
  before-ahead : (side : Side) (a b : Order) → Of s side a → Of s side b → Ahead a b → Before (s ∷ ss) a b
  before-ahead side a b p q h = listed-tie (group a) (group b) (ahead a b) (of-first side a p ∙ sym (of-first side b q))
      h

  before-sides : (a b : Order) → Of s Buy a → Of s Sell b → Before (s ∷ ss) a b
  before-sides a b p q =
      let buys = of-first Buy a p in
      let sells = of-first Sell b q in
      listed-less (group a) (group b) (ahead a b) (omega (arith, buys, sells))

  -- before those of later symbols
  before-later : (a b : Order) → bytes_eq a.symbol s ≡ true → bytes_eq b.symbol s ≡ false → Before (s ∷ ss) a b
  before-later a b p q =
      let first = group-first s ss a p in
      let side = side-below a.side in
      let later = group-later s ss b q in
      listed-less (group a) (group b) (ahead a b) (omega (arith, first, side, later))

  -- of later symbols, as without the first
  before-more : (a b : Order) → bytes_eq a.symbol s ≡ false → bytes_eq b.symbol s ≡ false → Before ss a b
      → Before (s ∷ ss) a b
  before-more a b p q h = listed-more (group_of ss a) (group_of ss b) (group a) (group b) (ahead a b)
      (group-later s ss a p) (group-later s ss b q) h

-- each order comes before all that follow
pub listing-in_order : (orders : List Order) → InTime orders → (ss : Symbols) → all_differ ss ≡ true →
    Pairwise (λ a b. comes_before ss a b ≡ true) (listing ss orders)
listing-in_order orders in_time [] differ = tt
listing-in_order orders in_time (s ∷ ss) differ =
    let apart = differ-parts s ss differ in
    let later : AllByRecursion (λ x. bytes_eq x.symbol s ≡ false) (listing ss orders) =
    each-listing orders (λ x. bytes_eq x.symbol s ≡ false) ss (each-other orders s ss apart.0) in
    let ranked : (side : Side) → Pairwise (Before (s ∷ ss)) (queue s side orders) =
    λ side. pairs-weaker Ahead (Before (s ∷ ss)) (Of s side) (before-ahead s ss side) (queue s side orders)
    (each-queue orders s side)
    (queue-in_order orders in_time s side) in
    let of_first : (side : Side) → AllByRecursion (λ x. AllByRecursion (Before (s ∷ ss) x) (listing ss orders))
    (queue s side orders) =
    λ side. each-each (Before (s ∷ ss)) (Of s side) (λ x. bytes_eq x.symbol s ≡ false)
    (λ a b p q. before-later s ss a b p.symbol q)
    (queue s side orders) (listing ss orders) (each-queue orders s side) later in
    pairs-append (Before (s ∷ ss)) (queue s Buy orders ++ queue s Sell orders) (listing ss orders)
    (pairs-append (Before (s ∷ ss)) (queue s Buy orders) (queue s Sell orders) (ranked Buy) (ranked Sell)
    (each-each (Before (s ∷ ss)) (Of s Buy) (Of s Sell) (before-sides s ss) (queue s Buy orders) (queue s Sell orders)
    (each-queue orders s Buy) (each-queue orders s Sell)))
    (pairs-weaker (Before ss) (Before (s ∷ ss)) (λ x. bytes_eq x.symbol s ≡ false) (before-more s ss)
    (listing ss orders) later
    (listing-in_order orders in_time ss apart.1))
    (each-append (λ x. AllByRecursion (Before (s ∷ ss) x) (listing ss orders)) (queue s Buy orders)
    (queue s Sell orders)
    (of_first Buy) (of_first Sell))
