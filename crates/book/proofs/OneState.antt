-- A snapshot spells one state, and a state has one snapshot.
use Rattle.std.proofs.Common.{◌≡◌, ◌⊎◌, inl, inr, ℕ, zero, suc, ◌<◌, ◌≤◌, ◌^◌, true, false, List, [], ◌∷◌, length}
use Rattle.std.proofs.Common.{refl, ap, sym, subst, ◌∙◌, arith}
use Rattle.std.specs.List.{AllByRecursion, Contains, list_any}
use Rattle.std.specs.List.Sorted.{IsPermutation}
use Rattle.std.specs.Str.{bytes_eq}
use Rattle.std.proofs.lemmas.List.Sorted.{IsPermutation-sym, IsPermutation-trans, Contains-permutation}
use Rattle.venue_model.specs.declared.orders.Order.{Order}
use Rattle.venue_model.specs.Requests.{Symbols, State, is_named}
use Rattle.venue_model.specs.Spelling.{AreSymbols}
use Rattle.price_levels.specs.Stamps.{InStamps}
use Rattle.book.specs.declared.snapshot.head.Head.{Head}
use Rattle.book.specs.Books.{NamedApart}
use Rattle.book.specs.Listing.{listing}
use Rattle.book.specs.Rows.{row_of, row_bytes, orders_bytes}
use Rattle.book.specs.Snapshots.{HasRanges, SnapshotOf, SpellsBoth, snapshot_bytes}
use Rattle.book.specs.Standing.{Rising, Pairwise, InTime}
use Rattle.book.proofs.LawSnapshots.{apart-permuted}
use Rattle.book.proofs.ListedLemmas.{each-at, listed-once}
use Rattle.book.proofs.ListingLemmas.{Before, listing-in_order}
use Rattle.book.proofs.Lists.{each-map}
use Rattle.book.proofs.NextLemmas.{named-self, stands-in, before-not}
use Rattle.book.proofs.RestoredOrders.{each-permuted}
use Rattle.book.proofs.RowLemmas.{length-row}
use Rattle.book.proofs.SpelledBooks.{its_head, has-head, its-rows, head-is, head-small, length-rows}
use Rattle.book.proofs.SpelledRows.{same-parts, same-row, same-order, row-fits}

-- WHAT A LIST CONTAINS

first-or : (x : Order) (xs : List Order) (o : Order) → Contains (x ∷ xs) o → (x ≡ o) ⊎ Contains xs o
first-or x xs o (zero, within, at) = inl at
first-or x xs o (suc k, within, at) = inr (k, omega (arith, within), at)

behind-first : (x : Order) (xs : List Order) (o : Order) → Contains xs o → Contains (x ∷ xs) o
behind-first x xs o there = (suc there.0, omega (arith, there.1), there.2)

nothing-in : (o : Order) → Contains [] o → ⊥
nothing-in o there = omega (arith, there.1)

-- two lists with the same elements, each of which stands before all behind it by an order that goes one way, are one
module _ (R : Order → Order → Type 0) (one_way : (a b : Order) → R a b → R b a → ⊥) where
  pub same-sorted : (xs ys : List Order) → Pairwise R xs → Pairwise R ys → ((o : Order) → Contains xs o → Contains ys o)
      → ((o : Order) → Contains ys o → Contains xs o) → xs ≡ ys
  same-sorted [] [] first second to from = refl
  same-sorted [] (y ∷ ys) first second to from = absurd (nothing-in y (from y (stands-in [] ys y)))
  same-sorted (x ∷ xs) [] first second to from = absurd (nothing-in x (to x (stands-in [] xs x)))
  same-sorted (x ∷ xs) (y ∷ ys) first second to from =
      let heads = same-heads (first-or y ys x (to x (stands-in [] xs x)))
      (first-or x xs y (from y (stands-in [] ys y))) in
      let tails = same-sorted xs ys first.1 second.1
      (λ o there. not-first y ys o (first-or y ys o (to o (behind-first x xs o there)))
      (λ same. one_way o o (subst (λ z. R z o) (heads ∙ same) (each-at (R x) xs o there first.0))
      (subst (λ z. R z o) (heads ∙ same) (each-at (R x) xs o there first.0))))
      (λ o there. not-first x xs o (first-or x xs o (from o (behind-first y ys o there)))
      (λ same. one_way o o (subst (λ z. R z o) (sym heads ∙ same) (each-at (R y) ys o there second.0))
      (subst (λ z. R z o) (sym heads ∙ same) (each-at (R y) ys o there second.0)))) in
      λ i. heads i ∷ tails i
    where
      same-heads : (y ≡ x) ⊎ Contains ys x → (x ≡ y) ⊎ Contains xs y → x ≡ y
      same-heads (inl same) other = sym same
      same-heads (inr there) (inl same) = same
      same-heads (inr there) (inr also) = absurd
          (one_way x y (each-at (R x) xs y also first.0) (each-at (R y) ys x there second.0))

      not-first : (z : Order) (zs : List Order) (o : Order) → (z ≡ o) ⊎ Contains zs o → (z ≡ o → ⊥) → Contains zs o
      not-first z zs o (inl same) other = absurd (other same)
      not-first z zs o (inr there) other = there

-- STAMPS

abbrev Earlier : Order → Order → Type 0
Earlier a b = a.stamp < b.stamp

rising-pairs : (os : List Order) → Rising os → Pairwise Earlier os
rising-pairs [] rising = tt
rising-pairs (o ∷ os) rising = (rising.0, rising-pairs os rising.1)

-- where stamps rise, one stamp is one order's
one-stamp : (os : List Order) → Rising os → (a b : Order) → Contains os a → Contains os b → a.stamp ≡ b.stamp → a ≡ b
one-stamp [] rising a b there also same = absurd (nothing-in a there)
one-stamp (o ∷ os) rising a b there also same =
    either (first-or o os a there) (first-or o os b also) (λ x y. one-stamp os rising.1 a b x y same)
  where
    either : (o ≡ a) ⊎ Contains os a → (o ≡ b) ⊎ Contains os b → (Contains os a → Contains os b → a ≡ b) → a ≡ b
    either (inl x) (inl y) inside = sym x ∙ y
    either (inl x) (inr y) inside =
        let later = each-at (Earlier o) os b y rising.0 in
        let stamp = ap (λ (z : Order). z.stamp) x in
        absurd (omega (arith, later, stamp, same))
    either (inr x) (inl y) inside =
        let later = each-at (Earlier o) os a x rising.0 in
        let stamp = ap (λ (z : Order). z.stamp) y in
        absurd (omega (arith, later, stamp, same))
    either (inr x) (inr y) inside = inside x y

-- orders of such a list that don't fall, and of which no client has two under one name, rise too
still-rising : (all : List Order) → Rising all → (os : List Order) → ((o : Order) → Contains os o → Contains all o)
    → InStamps os → NamedApart os → Rising os
still-rising all rising [] from stamps apart = tt
still-rising all rising (o ∷ os) from stamps apart = (
  later os (λ x there. from x (behind-first o os x there)) stamps.0 apart.0,
  still-rising all rising os (λ x there. from x (behind-first o os x there)) stamps.1 apart.1,
)
  where
    strictly : (x : Order) → Contains all x → o.stamp ≤ x.stamp → is_named o.client o.cl_ord_id x ≡ false
        → o.stamp < x.stamp
    strictly x there within other = above (λ same.
        let one = one-stamp all rising o x (from o (stands-in [] os o)) there same in
        let its = ap (is_named o.client o.cl_ord_id) (sym one) ∙ named-self o in
        cc)
      where
        above : (o.stamp ≡ x.stamp → ⊥) → o.stamp < x.stamp
        above differs = omega (arith, within, differs)

    later : (xs : List Order) → ((x : Order) → Contains xs x → Contains all x)
        → AllByRecursion (λ x. o.stamp ≤ x.stamp) xs
        → AllByRecursion (λ x. is_named o.client o.cl_ord_id x ≡ false) xs → AllByRecursion (Earlier o) xs
    later [] inside within other = tt
    later (x ∷ xs) inside within other = (
      strictly x (inside x (stands-in [] xs x)) within.0 other.0,
      later xs (λ y there. inside y (behind-first x xs y there)) within.1 other.1,
    )

-- two lists of the same orders, one with stamps that rise, the other with stamps that don't fall
pub same-orders : (xs ys : List Order) → IsPermutation xs ys → Rising xs → InStamps ys → NamedApart ys → ys ≡ xs
same-orders xs ys same rising stamps apart =
    let back = IsPermutation-sym xs ys same in
    let inside : (o : Order) → Contains ys o → Contains xs o = λ o there. Contains-permutation ys xs o back there in
    same-sorted Earlier (λ a b h k. omega (arith, h, k)) ys xs
    (rising-pairs ys (still-rising xs rising ys inside stamps apart)) (rising-pairs xs rising) inside
    (λ o there. Contains-permutation xs ys o same there)

-- ROWS

module _ (symbols : Symbols) (greatest : List ℕ) (commands : ℕ) (table : AreSymbols symbols)
    (few : commands ≤ 2 ^ 48) where
  abbrev Ranged : List Order → Type 0
  Ranged = AllByRecursion (HasRanges symbols greatest commands)

  -- the rows of orders in range are theirs alone
  same-rows : (xs ys : List Order) → Ranged xs → Ranged ys → orders_bytes symbols xs ≡ orders_bytes symbols ys → xs ≡ ys
  same-rows [] [] first second e = refl
  same-rows [] (y ∷ ys) first second e =
      let long = ap length e in let rows = length-rows symbols (y ∷ ys) in absurd (omega (arith, long, rows))
  same-rows (x ∷ xs) [] first second e =
      let long = ap length e in let rows = length-rows symbols (x ∷ xs) in absurd (omega (arith, long, rows))
  same-rows (x ∷ xs) (y ∷ ys) first second e =
      let parts = same-parts (row_bytes (row_of symbols x)) (row_bytes (row_of symbols y)) (orders_bytes symbols xs)
      (orders_bytes symbols ys) (length-row (row_of symbols x) ∙ sym (length-row (row_of symbols y))) e in
      let row = same-row (row_of symbols x) (row_of symbols y) (row-fits symbols greatest commands table few x first.0)
      (row-fits symbols greatest commands table few y second.0) parts.0 in
      let head = same-order symbols table x y first.0.symbol first.0.limit second.0.limit row in
      let tail = same-rows xs ys first.1 second.1 parts.1 in
      λ i. head i ∷ tail i

-- ONE STATE

module _ (symbols : Symbols) (bytes : List ℕ) (s r : State) (both : SpellsBoth symbols bytes s r) where
  abbrev is : SnapshotOf symbols s both.commands both.told bytes
  is = both.one

  abbrev also : SnapshotOf symbols r both.its_commands both.its_told bytes
  also = both.other

  heads : its_head also ≡ its_head is
  heads =
      let one = has-head is in
      let other = has-head also in
      head-is bytes _ _ (head-small bytes _ other) (sym other.spelled) one

  lists : also.listed ≡ is.listed
  lists =
      let count = ap (λ (h : Head). h.commands) heads in
      let names = ap (λ (h : Head). h.greatest) heads in
      let ranged : Ranged symbols s.greatest both.commands both.table is.counts.counted also.listed =
      subst (λ (n : ℕ). AllByRecursion (HasRanges symbols s.greatest n) also.listed) count
      (subst (λ (g : List ℕ). AllByRecursion (HasRanges symbols g both.its_commands) also.listed) names
      also.are.each) in
      same-rows symbols s.greatest both.commands both.table is.counts.counted also.listed is.listed ranged is.are.each
      (sym (its-rows also) ∙ its-rows is)

  pub one-count : both.its_commands ≡ both.commands
  one-count = ap (λ (h : Head). h.commands) heads

  pub one-told : both.its_told ≡ both.told
  one-told = ap (λ (h : Head). h.outputs) heads

  pub one-greatest : r.greatest ≡ s.greatest
  one-greatest = ap (λ (h : Head). h.greatest) heads

  pub one-orders : IsPermutation s.orders r.orders
  one-orders = IsPermutation-trans s.orders also.listed r.orders
      (subst (IsPermutation s.orders) (sym lists) is.same) (IsPermutation-sym r.orders also.listed also.same)

  pub one-state : Rising s.orders → InStamps r.orders → r ≡ s
  one-state rising stamps =
      let apart = apart-permuted also.listed r.orders (IsPermutation-sym r.orders also.listed also.same)
      also.are.apart in
      let orders = same-orders s.orders r.orders one-orders rising stamps apart in
      λ i. record { orders = orders i; greatest = one-greatest i }

-- ONE SNAPSHOT

-- where stamps rise within each price level, the bytes are those that are written
pub one-snapshot : (symbols : Symbols) (s : State) (commands told : ℕ) (bytes : List ℕ) → AreSymbols symbols
    → InTime s.orders
    → SnapshotOf symbols s commands told bytes
    → bytes ≡ snapshot_bytes symbols commands told s.greatest (listing symbols s.orders)
one-snapshot symbols s commands told bytes table in_time is =
    let known : AllByRecursion (λ (o : Order). list_any (bytes_eq o.symbol) symbols ≡ true) s.orders =
    each-permuted (λ o. list_any (bytes_eq o.symbol) symbols ≡ true) is.listed s.orders
    (IsPermutation-sym s.orders is.listed is.same)
    (each-map (HasRanges symbols s.greatest commands) (λ o. list_any (bytes_eq o.symbol) symbols ≡ true)
    (λ o has. has.symbol) is.listed is.are.each) in
    let once = listed-once symbols table.differ s.orders known in
    let both = IsPermutation-trans is.listed s.orders (listing symbols s.orders)
    (IsPermutation-sym s.orders is.listed is.same) once in
    let one = same-sorted (Before symbols) (λ a b h k. let not_so = before-not symbols a b h in cc)
    is.listed (listing symbols s.orders)
    is.are.in_order (listing-in_order s.orders in_time symbols table.differ)
    (λ o there. Contains-permutation is.listed (listing symbols s.orders) o both there)
    (λ o there. Contains-permutation (listing symbols s.orders) is.listed o
    (IsPermutation-sym is.listed (listing symbols s.orders) both) there) in
    is.spelled ∙ ap (snapshot_bytes symbols commands told s.greatest) one
