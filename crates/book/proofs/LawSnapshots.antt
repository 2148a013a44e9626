-- The listing of orders in range is one that a snapshot may have; so is that of the state after any history.
use Rattle.std.proofs.Common.{◌≡◌, ℕ, ◌≤◌, ◌^◌, Bool, true, false, List, [], ◌∷◌, ◌++◌, length, refl, ap}
use Rattle.std.proofs.Common.{subst, arith}
use Rattle.std.specs.Prelude.{filter, sum_by, if◌then◌else◌}
use Rattle.std.specs.List.{AllByRecursion, list_any}
use Rattle.std.specs.List.Sorted.{IsPermutation}
use Rattle.std.specs.Str.{bytes_eq}
use Rattle.std.proofs.lemmas.List.Sorted.{length_permutation, sum_by-IsPermutation}
use Rattle.std.proofs.lemmas.List.Sums.{sum_by-cons}
use Rattle.venue_model.specs.declared.orders.Order.{Order}
use Rattle.venue_model.specs.declared.orders.Side.TheVariants.{Buy, Sell}
use Rattle.venue_model.specs.GrowthLaws.{few-told-by}
use Rattle.venue_model.specs.History.{History, IsMessage}
use Rattle.venue_model.specs.HistoryLaws.{few-resting}
use Rattle.venue_model.specs.Requests.{Limits, Symbols, State, is_named}
use Rattle.venue_model.specs.Spelling.{AreSymbols}
use Rattle.book.specs.Standing.{Pairwise, IsEarlier, InTime}
use Rattle.book.specs.Books.{NamedApart}
use Rattle.book.specs.Laws.{RestBeside, CanRest, IsOrderly}
use Rattle.book.specs.Histories.{reads_at, requests_of, state_of}
use Rattle.book.specs.Listing.{is_of, queue, listing}
use Rattle.book.specs.Snapshots.{HasRanges, AreListed}
use Rattle.book.specs.TrueSnapshots.{SpellsItsState}
use Rattle.book.proofs.Lists.{each-append, each-map, each-of, each-filter}
use Rattle.book.proofs.Priority.{each-by_priority}
use Rattle.book.proofs.LawPairs.{each-both}
use Rattle.book.proofs.LawStamps.{length-requests}
use Rattle.book.proofs.LawOrderly.{state-orderly, from-gateways}
use Rattle.book.proofs.NamedLists.{same-names}
use Rattle.book.proofs.NextLemmas.{named-self}
use Rattle.book.proofs.LawNumbers.{HasNumbers, AreNumbered, history-numbers}
use Rattle.book.proofs.ListingLemmas.{pairs-weaker, listing-in_order}
use Rattle.book.proofs.ListedLemmas.{listed-once}

-- what holds of each order holds of each in the listing
each-in_listing : (P : Order → Type 0) (symbols : Symbols) (orders : List Order) → AllByRecursion P orders →
    AllByRecursion P (listing symbols orders)
each-in_listing P [] orders all = tt
each-in_listing P (s ∷ symbols) orders all =
    each-append P (queue s Buy orders ++ queue s Sell orders) (listing symbols orders)
    (each-append P (queue s Buy orders) (queue s Sell orders)
    (each-by_priority P (filter (is_of s Buy) orders) (each-filter P (is_of s Buy) orders all))
    (each-by_priority P (filter (is_of s Sell) orders) (each-filter P (is_of s Sell) orders all)))
    (each-in_listing P symbols orders all)

-- NAMES

-- an order of this name counts 1, any other 0
abbrev one_if : Bool → ℕ
one_if b = if b then 1 else 0

abbrev one_named : ℕ → ℕ → Order → ℕ
one_named c n o = one_if (is_named c n o)

none-counts : (c n : ℕ) (os : List Order) → AllByRecursion (λ x. is_named c n x ≡ false) os →
    sum_by (one_named c n) os ≡ 0
none-counts c n [] none = omega arith
none-counts c n (o ∷ os) none =
    let sum = sum_by-cons (one_named c n) o os in
    let this : one_named c n o ≡ 0 = ap one_if none.0 in
    let rest = none-counts c n os none.1 in
    omega (arith, sum, this, rest)

counts-none : (c n : ℕ) (os : List Order) → sum_by (one_named c n) os ≡ 0 →
    AllByRecursion (λ x. is_named c n x ≡ false) os
counts-none c n [] zero = tt
counts-none c n (o ∷ os) zero =
    let sum = sum_by-cons (one_named c n) o os in
    (other (is_named c n o) (omega (arith, sum, zero)), counts-none c n os (omega (arith, sum, zero)))
  where
    other : (b : Bool) → one_if b ≡ 0 → b ≡ false
    other true h = absurd (omega (arith, h))
    other false h = refl

-- where no client has two orders under one name, each name counts one at most
apart-counts : (os : List Order) → NamedApart os → (c n : ℕ) → sum_by (one_named c n) os ≤ 1
apart-counts [] apart c n = omega arith
apart-counts (o ∷ os) apart c n =
    let sum = sum_by-cons (one_named c n) o os in
    elim (is_named c n o) as (λ b. is_named c n o ≡ b → sum_by (one_named c n) (o ∷ os) ≤ 1) [
      | true ↦ λ h.
          let this : one_named c n o ≡ 1 = ap one_if h in
          let same = same-names c n o h in
          let none = none-counts c n os (subst (λ k. AllByRecursion (λ x. is_named k n x ≡ false) os) same.0
          (subst (λ k. AllByRecursion (λ x. is_named o.client k x ≡ false) os) same.1 apart.0)) in
          omega (arith, sum, this, none)
      | false ↦ λ h.
          let this : one_named c n o ≡ 0 = ap one_if h in
          let rest = apart-counts os apart.1 c n in
          omega (arith, sum, this, rest)
    ] refl

-- and the other way round
counts-apart : (os : List Order) → ((c n : ℕ) → sum_by (one_named c n) os ≤ 1) → NamedApart os
counts-apart [] counts = tt
counts-apart (o ∷ os) counts = (
  counts-none o.client o.cl_ord_id os
      (let sum = sum_by-cons (one_named o.client o.cl_ord_id) o os in
      let this : one_named o.client o.cl_ord_id o ≡ 1 = ap one_if (named-self o) in
      let all = counts o.client o.cl_ord_id in
      omega (arith, sum, this, all)),
  counts-apart os (λ c n.
      let sum = sum_by-cons (one_named c n) o os in
      let all = counts c n in
      omega (arith, sum, all)),
)

-- so it holds of the same orders however they stand
pub apart-permuted : (xs ys : List Order) → IsPermutation xs ys → NamedApart xs → NamedApart ys
apart-permuted xs ys same apart = counts-apart ys (λ c n.
    let as_many = sum_by-IsPermutation (one_named c n) xs ys same in
    let most = apart-counts xs apart c n in
    omega (arith, as_many, most))

-- ANY ORDERS IN RANGE

module _ (symbols : Symbols) (greatest : List ℕ) (commands : ℕ) (orders : List Order) (table : AreSymbols symbols)
    (each : AllByRecursion (HasRanges symbols greatest commands) orders) where
  -- they are listed, each once
  pub ranged-same : IsPermutation orders (listing symbols orders)
  ranged-same = listed-once symbols table.differ orders (each-map (HasRanges symbols greatest commands)
      (λ o. list_any (bytes_eq o.symbol) symbols ≡ true) (λ o has. has.symbol) orders each)

  -- and a snapshot may have the listing
  pub ranged-listed : InTime orders → NamedApart orders → AreListed symbols greatest commands (listing symbols orders)
  ranged-listed in_time apart = record {
    each = each-in_listing (HasRanges symbols greatest commands) symbols orders each;
    in_order = listing-in_order orders in_time symbols table.differ;
    apart = apart-permuted orders (listing symbols orders) ranged-same apart;
  }

-- ANY HISTORY

-- orders that rest side by side
beside-in_time : (os : List Order) → Pairwise RestBeside os → InTime os
beside-in_time os pairs = pairs-weaker RestBeside IsEarlier (λ o. Unit {0}) (λ a b _ _ beside one_level. beside.earlier)
    os (each-of (λ o. Unit {0}) (λ o. tt) os) pairs

beside-apart : (os : List Order) → Pairwise RestBeside os → NamedApart os
beside-apart [] pairs = tt
beside-apart (o ∷ os) pairs = (
  each-map (RestBeside o) (λ x. is_named o.client o.cl_ord_id x ≡ false) (λ x beside. beside.apart) os pairs.0,
  beside-apart os pairs.1,
)

module _ (limits : Limits) (h : History) (table : AreSymbols limits.symbols) (messages : AllByRecursion IsMessage h)
    (few : length h ≤ 2 ^ 48) where
  abbrev symbols : Symbols
  symbols = limits.symbols

  abbrev s : State
  s = state_of limits h

  orderly : IsOrderly (length h) s
  orderly = subst (λ n. IsOrderly n s) (length-requests (reads_at limits) 0 h)
      (state-orderly symbols (requests_of limits h) (from-gateways (reads_at limits) 0 h messages))

  numbers : AreNumbered symbols (length h) s
  numbers = history-numbers limits h

  ranges : AllByRecursion (HasRanges symbols s.greatest (length h)) s.orders
  ranges = each-map (λ o. HasNumbers symbols (length h) o × CanRest (length h) s.greatest o)
      (HasRanges symbols s.greatest (length h))
      (λ o has. record {
        id_from = has.0.id_from;
        id_to = has.0.id_to;
        client_from = has.1.from;
        client_to = has.1.to;
        name = has.0.name;
        accepted = has.1.name;
        symbol = has.0.symbol;
        limit = has.0.limit;
        price = has.0.price;
        total = has.0.total;
        live = has.1.live;
        notional = has.0.notional;
        stamp = has.1.before;
      }) s.orders
      (each-both (HasNumbers symbols (length h)) (CanRest (length h) s.greatest) s.orders numbers.each orderly.each)

  same : IsPermutation s.orders (listing symbols s.orders)
  same = ranged-same symbols s.greatest (length h) s.orders table ranges

  pub history-snapshot : SpellsItsState limits h
  history-snapshot = record {
    listed = listing symbols s.orders;
    same = same;
    spelled = refl;
    counts = record {
      counted = few;
      outputs = few-told-by (reads_at limits) symbols h;
      few =
          let all = length_permutation s.orders (listing symbols s.orders) same in
          let rest = few-resting symbols (requests_of limits h) in
          omega (arith, all, rest);
    };
    clients = orderly.clients;
    names = numbers.names;
    are = ranged-listed symbols s.greatest (length h) s.orders table ranges (beside-in_time s.orders orderly.pairs)
        (beside-apart s.orders orderly.pairs);
  }
