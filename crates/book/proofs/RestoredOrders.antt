-- The orders that the rows of a snapshot spell, as they come one behind the other.
use Rattle.std.proofs.Common.{◌≡◌, ◌≢◌, ℕ, suc, ◌+◌, ◌*◌, ◌<◌, ◌≤◌, ◌^◌, Bool, true, false, ◌&&◌, ◌||◌, nat_eq, nat_lt}
use Rattle.std.proofs.Common.{List, [], ◌∷◌, ◌++◌, length}
use Rattle.std.proofs.Common.{Option, Some, None, refl, ap, sym, subst, ◌∙◌, arith, append_assoc}
use Rattle.std.proofs.Common.{length-append}
use Rattle.std.specs.List.{AllByRecursion, Contains}
use Rattle.std.specs.List.Sorted.{IsPermutation}
use Rattle.std.proofs.lemmas.Bool.Decides.{nat_tests}
use Rattle.std.proofs.lemmas.List.{flat_map_more}
use Rattle.std.proofs.lemmas.List.Sorted.{IsPermutation-refl, IsPermutation-sym, IsPermutation-cons}
use Rattle.std.proofs.lemmas.List.Sorted.{IsPermutation-trans}
use Rattle.std.proofs.lemmas.List.Sorted.{IsPermutation-middle, IsPermutation-to_front, Contains-permutation}
use Rattle.std.proofs.lemmas.List.Sorted.{length_permutation}
use Rattle.venue_model.specs.declared.orders.Side.{Side}
use Rattle.venue_model.specs.declared.orders.Side.TheVariants.{Buy, Sell}
use Rattle.venue_model.specs.declared.orders.Order.{Order}
use Rattle.venue_model.specs.Orders.{ahead}
use Rattle.venue_model.specs.Requests.{Symbols, is_named}
use Rattle.venue_model.specs.Spelling.{AreSymbols}
use Rattle.price_levels.specs.Places.{InOneLevel}
use Rattle.price_levels.specs.Stamps.{InStamps, Comes}
use Rattle.book.specs.declared.snapshot.row.Row.{Row}
use Rattle.book.specs.Books.{NamedApart}
use Rattle.book.specs.Next.{side_order, symbol_number, group_of, comes_behind}
use Rattle.book.specs.Rows.{row_of, row_bytes, orders_bytes}
use Rattle.book.specs.Snapshots.{HasRanges, AreListed}
use Rattle.book.specs.Spelled.{FitsRow, CanCome, SpellsNone}
use Rattle.book.specs.Standing.{Rests, NoneNamed, Pairwise, IsEarlier, InTime, BehindLevel}
use Rattle.book.proofs.GroupLemmas.{group-parts}
use Rattle.book.proofs.LawPairs.{pairs-push}
use Rattle.book.proofs.ListedLemmas.{each-at}
use Rattle.book.proofs.ListingLemmas.{Before}
use Rattle.book.proofs.Lists.{each-append, each-map, each-back, each-front}
use Rattle.book.proofs.NextLemmas.{from-group, by-priority, named-other, stands-in, leads}
use Rattle.book.proofs.SpelledRows.{goes_on}

-- LISTS

-- what holds of each that a list contains holds of each element
each-in : (P : Order → Type 0) (xs : List Order) → ((x : Order) → Contains xs x → P x) → AllByRecursion P xs
each-in P [] f = tt
each-in P (x ∷ xs) f = (
  f x (stands-in [] xs x),
  each-in P xs (λ y there. f y (suc there.0, omega (arith, there.1), there.2)),
)

pub each-permuted : (P : Order → Type 0) (xs ys : List Order) → IsPermutation xs ys → AllByRecursion P xs
    → AllByRecursion P ys
each-permuted P xs ys same all = each-in P ys
    (λ y there. each-at P xs y (Contains-permutation ys xs y (IsPermutation-sym xs ys same) there) all)

-- those before one in the middle
pairs-front : (R : Order → Order → Type 0) (xs ys : List Order) (o : Order) → Pairwise R (xs ++ o ∷ ys)
    → AllByRecursion (λ x. R x o) xs
pairs-front R [] ys o pairs = tt
pairs-front R (x ∷ xs) ys o pairs = ((each-back (R x) xs (o ∷ ys) pairs.0).0, pairs-front R xs ys o pairs.1)

-- one comes between others
pairs-between : (R : Order → Order → Type 0) (xs ys : List Order) (o : Order) → AllByRecursion (λ x. R x o) xs
    → AllByRecursion (R o) ys → Pairwise R (xs ++ ys) → Pairwise R (xs ++ o ∷ ys)
pairs-between R [] ys o before behind pairs = (behind, pairs)
pairs-between R (x ∷ xs) ys o before behind pairs = (
  each-append (R x) xs (o ∷ ys) (each-front (R x) xs ys pairs.0) (before.0, each-back (R x) xs ys pairs.0),
  pairs-between R xs ys o before.1 behind pairs.1,
)

-- NAMES

apart-push : (xs : List Order) (o : Order) → NamedApart xs
    → AllByRecursion (λ x. is_named x.client x.cl_ord_id o ≡ false) xs
    → NamedApart (xs ++ o ∷ [])
apart-push [] o apart other = (tt, tt)
apart-push (x ∷ xs) o apart other = (
  each-append (λ y. is_named x.client x.cl_ord_id y ≡ false) xs (o ∷ []) apart.0 (other.0, tt),
  apart-push xs o apart.1 other.1,
)

apart-front : (xs ys : List Order) (o : Order) → NamedApart (xs ++ o ∷ ys)
    → AllByRecursion (λ x. is_named x.client x.cl_ord_id o ≡ false) xs
apart-front [] ys o apart = tt
apart-front (x ∷ xs) ys o apart =
    ((each-back (λ y. is_named x.client x.cl_ord_id y ≡ false) xs (o ∷ ys) apart.0).0, apart-front xs ys o apart.1)

apart-between : (xs ys : List Order) (o : Order)
    → AllByRecursion (λ x. is_named o.client o.cl_ord_id x ≡ false) (xs ++ ys)
    → NamedApart (xs ++ ys) → NamedApart (xs ++ o ∷ ys)
apart-between [] ys o fresh apart = (fresh, apart)
apart-between (x ∷ xs) ys o fresh apart = (
  each-append (λ y. is_named x.client x.cl_ord_id y ≡ false) xs (o ∷ ys)
      (each-front (λ y. is_named x.client x.cl_ord_id y ≡ false) xs ys apart.0)
      (named-other x o fresh.0, each-back (λ y. is_named x.client x.cl_ord_id y ≡ false) xs ys apart.0),
  apart-between xs ys o fresh.1 apart.1,
)

-- ORDER

listed-when : (n m : ℕ) (b : Bool) → n ≤ m → (n ≡ m → b ≡ true) → (nat_lt n m || (nat_eq n m && b)) ≡ true
listed-when n m true within tie = grind (arith, nat_tests)
listed-when n m false within tie =
    let other : n ≢ m = λ same. let it = tie same in cc in
    let less : n < m = (omega (arith, within, other)) in
    grind (arith, nat_tests)

leads-over : (side : Side) (p s q t r u : ℕ) → leads side p s q t ≡ true → leads side q t r u ≡ true
    → leads side p s r u ≡ true
leads-over Buy p s q t r u h k = grind (arith, nat_tests)
leads-over Sell p s q t r u h k = grind (arith, nat_tests)

same-price : (side : Side) (p s t : ℕ) → leads side p s p t ≡ true → s < t
same-price Buy p s t h = grind (arith, nat_tests)
same-price Sell p s t h = grind (arith, nat_tests)

module _ (symbols : Symbols) where
  before-over : (a b c : Order) → Before symbols a b → Before symbols b c → Before symbols a c
  before-over a b c h k =
      let first = from-group symbols a b h in
      let then = from-group symbols b c k in
      listed-when (group_of symbols a) (group_of symbols c) (ahead a c) (omega (arith, first, then)) (λ same.
      let tie : group_of symbols a ≡ group_of symbols b = omega (arith, first, then, same) in
      let also : group_of symbols b ≡ group_of symbols c = omega (arith, first, then, same) in
      let side = (group-parts (symbol_number symbols a.symbol) (symbol_number symbols b.symbol) a.side b.side tie).1 in
      leads-over a.side a.price a.stamp b.price b.stamp c.price c.stamp (by-priority symbols a b h tie)
      (ap (λ (t : Side). leads t b.price b.stamp c.price c.stamp) side ∙ by-priority symbols b c k also))

  -- of one level the one that comes before another has the earlier stamp
  before-earlier : (x o : Order) → Before symbols x o → InOneLevel o x → x.stamp < o.stamp
  before-earlier x o h level =
      let group : group_of symbols x ≡ group_of symbols o =
      ap (λ (s : List ℕ). 2 * symbol_number symbols s + side_order x.side) level.symbol
      ∙ ap (λ (t : Side). 2 * symbol_number symbols o.symbol + side_order t) level.side in
      let leads_it = by-priority symbols x o h group in
      same-price x.side x.price x.stamp o.stamp
      (ap (λ (q : ℕ). leads x.side x.price x.stamp q o.stamp) level.price ∙ leads_it)

  -- behind the last order stand those that stand behind each
  pub record IsLast (last : Option Order) (listed : List Order) : Type 0 where
    pub behind : (o : Order) → comes_behind symbols last o ≡ true → AllByRecursion (λ x. Before symbols x o) listed
    pub least : (o : Order) → AllByRecursion (λ x. Before symbols x o) listed → comes_behind symbols last o ≡ true

  last-more : (last : Option Order) (listed : List Order) (o : Order) → IsLast last listed
      → comes_behind symbols last o ≡ true
      → IsLast (Some o) (listed ++ o ∷ [])
  last-more last listed o is behind = record {
    behind = λ p h. each-append (λ x. Before symbols x p) listed (o ∷ [])
        (each-map (λ x. Before symbols x o) (λ x. Before symbols x p) (λ x b. before-over x o p b h) listed
        (is.behind o behind))
        (h, tt);
    least = λ p all. (each-back (λ x. Before symbols x p) listed (o ∷ []) all).0;
  }

-- ONE ORDER AFTER ANOTHER

module _ (symbols : Symbols) (greatest : List ℕ) (commands : ℕ) where
  -- some orders have come: the bytes in front spell them, the others are left
  pub record SoFar (bytes left : List ℕ) (count : ℕ) (last : Option Order) (orders : List Order) : Type 0 where
    pub listed : List Order
    pub spelled : bytes ≡ orders_bytes symbols listed ++ left
    pub as_many : length listed ≡ count
    pub are : AreListed symbols greatest commands listed
    pub last_is : IsLast symbols last listed
    pub same : IsPermutation orders listed
    pub stamps : InStamps orders
    pub in_time : InTime orders
    pub apart : NamedApart orders

  pub none-yet : (bytes : List ℕ) (orders : List Order) → orders ≡ [] → SoFar bytes bytes 0 None orders
  none-yet bytes orders none = subst (SoFar bytes bytes 0 None) (sym none) (record {
    listed = [];
    spelled = refl;
    as_many = refl;
    are = record { each = tt; in_order = tt; apart = tt };
    last_is = record { behind = λ o h. tt; least = λ o all. refl };
    same = IsPermutation-refl [];
    stamps = tt;
    in_time = tt;
    apart = tt;
  })

  -- an order that is in range can rest
  pub can-rest : (o : Order) → HasRanges symbols greatest commands o → Rests o
  can-rest o has = record {
    live = has.live;
    limit = has.limit;
    in_range = record {
      cum = let live = has.live in omega (arith, live);
      total = has.total.1;
      price = has.price.1;
      notional = has.notional;
    };
  }

  module _ (bytes left : List ℕ) (count : ℕ) (last : Option Order) (orders : List Order)
      (so_far : SoFar bytes left count last orders) where
    pub few-yet : length orders ≡ count
    few-yet = sym (length_permutation orders so_far.listed so_far.same) ∙ so_far.as_many

    pub behind-level : (o : Order) → comes_behind symbols last o ≡ true → BehindLevel o orders
    behind-level o behind = each-permuted (λ x. InOneLevel o x → x.stamp < o.stamp) so_far.listed orders
        (IsPermutation-sym orders so_far.listed so_far.same)
        (each-map (λ x. Before symbols x o) (λ x. InOneLevel o x → x.stamp < o.stamp)
        (λ x h. before-earlier symbols x o h)
        so_far.listed (so_far.last_is.behind o behind))

    turned : (o x : Order) → InOneLevel x o → InOneLevel o x
    turned o x level = record { symbol = sym level.symbol; side = sym level.side; price = sym level.price }

    -- one more has come
    module _ (o : Order) (new : List Order) (r : Row) (behind : List ℕ)
        (can : CanCome symbols greatest commands last orders o)
        (row : row_of symbols o ≡ r) (split : left ≡ row_bytes r ++ behind)
        (comes : Comes o orders new) (stamps : InStamps new) where
      abbrev listed : List Order
      listed = so_far.listed

      others : AllByRecursion (λ x. is_named x.client x.cl_ord_id o ≡ false) listed
      others = each-permuted (λ x. is_named x.client x.cl_ord_id o ≡ false) orders listed so_far.same
          (each-map (λ x. is_named o.client o.cl_ord_id x ≡ false) (λ x. is_named x.client x.cl_ord_id o ≡ false)
          (λ x h. named-other x o h) orders can.fresh)

      later : BehindLevel o (comes.before ++ comes.behind)
      later = subst (BehindLevel o) comes.split (behind-level o can.behind)

      new-in_time : InTime new
      new-in_time = subst InTime (sym comes.put) (pairs-between IsEarlier comes.before comes.behind o
          (each-map (λ x. InOneLevel o x → x.stamp < o.stamp) (λ x. IsEarlier x o) (λ x h level. h (turned o x level))
          comes.before
          (each-front (λ x. InOneLevel o x → x.stamp < o.stamp) comes.before comes.behind later))
          (none-behind comes.behind comes.later
          (each-back (λ x. InOneLevel o x → x.stamp < o.stamp) comes.before comes.behind later))
          (subst InTime comes.split so_far.in_time))
        where
          none-behind : (xs : List Order) → AllByRecursion (λ x. o.stamp ≤ x.stamp) xs
              → AllByRecursion (λ x. InOneLevel o x → x.stamp < o.stamp) xs → AllByRecursion (IsEarlier o) xs
          none-behind [] all also = tt
          none-behind (x ∷ xs) all also = (
            (λ level. let earlier = also.0 level in
                let not_later = all.0 in absurd (omega (arith, earlier, not_later))),
            none-behind xs all.1 also.1,
          )

      new-apart : NamedApart new
      new-apart = subst NamedApart (sym comes.put) (apart-between comes.before comes.behind o
          (subst (NoneNamed o.client o.cl_ord_id) comes.split can.fresh) (subst NamedApart comes.split so_far.apart))

      new-same : IsPermutation new (listed ++ o ∷ [])
      new-same = subst (λ os. IsPermutation os (listed ++ o ∷ [])) (sym comes.put)
          (IsPermutation-trans _ (o ∷ (comes.before ++ comes.behind)) _
          (IsPermutation-middle comes.before o comes.behind)
          (IsPermutation-trans _ (o ∷ listed) _
          (IsPermutation-cons o (comes.before ++ comes.behind) listed
          (subst (λ os. IsPermutation os listed) comes.split so_far.same))
          (IsPermutation-sym (listed ++ o ∷ []) (o ∷ listed) (IsPermutation-to_front listed o))))

      pub one-more : SoFar bytes behind (count + 1) (Some o) new
      one-more = record {
        listed = listed ++ o ∷ [];
        spelled = so_far.spelled ∙ ap (λ rest. orders_bytes symbols listed ++ rest) split
            ∙ sym (append_assoc (orders_bytes symbols listed) (row_bytes r) behind)
            ∙ ap (λ (s : Row). (orders_bytes symbols listed ++ row_bytes s) ++ behind) (sym row)
            ∙ ap (λ front. front ++ behind) (flat_map_more (λ (x : Order). row_bytes (row_of symbols x)) [] listed o);
        as_many = let long = length-append listed (o ∷ []) in let many = so_far.as_many in omega (arith, long, many);
        are = record {
          each = each-append (HasRanges symbols greatest commands) listed (o ∷ []) so_far.are.each (can.ranges, tt);
          in_order = pairs-push (Before symbols) listed o so_far.are.in_order (so_far.last_is.behind o can.behind);
          apart = apart-push listed o so_far.are.apart others;
        };
        last_is = last-more symbols last listed o so_far.last_is can.behind;
        same = new-same;
        stamps = stamps;
        in_time = new-in_time;
        apart = new-apart;
      }

    -- where no order of the next row can come, the bytes spell none
    pub none-comes : (table : AreSymbols symbols) → commands ≤ 2 ^ 48 → (r : Row) (behind : List ℕ) → FitsRow r
        → left ≡ row_bytes r ++ behind
        → ((o : Order) → CanCome symbols greatest commands last orders o → row_of symbols o ≢ r)
        → SpellsNone symbols greatest commands bytes
    none-comes table few r behind fits split none all are spells =
        let goes = goes_on symbols greatest commands table few so_far.listed all r behind so_far.are.each are.each fits
        (sym (so_far.spelled ∙ ap (λ rest. orders_bytes symbols so_far.listed ++ rest) split) ∙ spells) in
        let o = goes.order in
        let every = subst (AllByRecursion (HasRanges symbols greatest commands)) goes.split are.each in
        let pairs = subst (Pairwise (Before symbols)) goes.split are.in_order in
        let apart = subst NamedApart goes.split are.apart in
        none o (record {
          ranges = (each-back (HasRanges symbols greatest commands) so_far.listed (o ∷ goes.behind) every).0;
          behind = so_far.last_is.least o (pairs-front (Before symbols) so_far.listed goes.behind o pairs);
          fresh = each-permuted (λ x. is_named o.client o.cl_ord_id x ≡ false) so_far.listed orders
              (IsPermutation-sym orders so_far.listed so_far.same)
              (each-map (λ x. is_named x.client x.cl_ord_id o ≡ false) (λ x. is_named o.client o.cl_ord_id x ≡ false)
              (λ x h. named-other o x h) so_far.listed (apart-front so_far.listed goes.behind o apart));
        }) goes.row
