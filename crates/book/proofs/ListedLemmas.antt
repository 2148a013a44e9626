-- Every resting order is listed, each once; so the next order behind one is what follows it in the listing.
use Rattle.std.proofs.Common.{◌≡◌, ℕ, Bool, true, false, ◌&&◌, ◌||◌, List, [], ◌∷◌, ◌++◌, slice_get, refl, ap, sym}
use Rattle.std.proofs.Common.{subst, ◌∙◌, append_assoc, Option, Some, None}
use Rattle.std.specs.Prelude.{filter, if◌then◌else◌}
use Rattle.std.specs.List.{AllByRecursion, Contains, list_any}
use Rattle.std.specs.List.Sorted.{IsPermutation}
use Rattle.std.specs.Str.{bytes_eq}
use Rattle.std.proofs.lemmas.List.Sorted.{IsPermutation-refl, IsPermutation-sym, IsPermutation-cons}
use Rattle.std.proofs.lemmas.List.Sorted.{IsPermutation-trans, IsPermutation-middle, IsPermutation-append_left}
use Rattle.std.proofs.lemmas.List.Sorted.{IsPermutation-append_right, Contains-permutation}
use Rattle.std.proofs.lemmas.Slice.Eq.{bytes_eq-Decides}
use Rattle.venue_model.specs.declared.orders.Side.{Side}
use Rattle.venue_model.specs.declared.orders.Side.TheVariants.{Buy, Sell}
use Rattle.venue_model.specs.declared.orders.Order.{Order}
use Rattle.venue_model.specs.Orders.{same_side}
use Rattle.venue_model.specs.Match.{insert_by_priority, by_priority}
use Rattle.venue_model.specs.Requests.{Symbols}
use Rattle.venue_model.specs.Spelling.{all_differ, AreSymbols}
use Rattle.book.specs.Laws.{Pairwise}
use Rattle.book.specs.Books.{Belongs, IsBook}
use Rattle.book.specs.Listing.{is_of, queue, listing}
use Rattle.book.specs.Next.{comes_before, comes_behind, NextOf}
use Rattle.book.proofs.Lists.{each-append, each-map, each-of, each-back}
use Rattle.book.proofs.LawOrder.{insert-same}
use Rattle.book.proofs.LawPriority.{Split, split-at}
use Rattle.book.proofs.GroupLemmas.{differ-parts}
use Rattle.book.proofs.NextLemmas.{before-self, before-not, stands-in}
use Rattle.book.proofs.ListingLemmas.{Before, listing-in_order}

-- ONE ORDER MORE

module _ (o : Order) (os : List Order) where
  abbrev put : Bool → List ℕ → Side → List Order
  put b symbol side = by_priority (if b then o ∷ filter (is_of symbol side) os else filter (is_of symbol side) os)

  -- the queues of other symbols stay
  queue-other : (symbol : List ℕ) (side : Side) → bytes_eq o.symbol symbol ≡ false
      → queue symbol side (o ∷ os) ≡ queue symbol side os
  queue-other symbol side h = ap (λ b. put (b && same_side o.side side) symbol side) h

  listing-other : (ss : Symbols) → list_any (bytes_eq o.symbol) ss ≡ false → listing ss (o ∷ os) ≡ listing ss os
  listing-other [] none = refl
  listing-other (s ∷ ss) none = elim (bytes_eq o.symbol s) as (λ b. bytes_eq o.symbol s ≡ b
      → (b || list_any (bytes_eq o.symbol) ss) ≡ false →
      listing (s ∷ ss) (o ∷ os) ≡ listing (s ∷ ss) os) [
        | true ↦ λ h k. cc
        | false ↦ λ h k.
            ap (λ xs. (xs ++ queue s Sell (o ∷ os)) ++ listing ss (o ∷ os)) (queue-other s Buy h)
            ∙ ap (λ xs. (queue s Buy os ++ xs) ++ listing ss (o ∷ os)) (queue-other s Sell h)
            ∙ ap (λ xs. (queue s Buy os ++ queue s Sell os) ++ xs) (listing-other ss k)
      ] refl none

  -- of its symbol, it stands in the queue of its side
  both-sides : (symbol : List ℕ) → bytes_eq o.symbol symbol ≡ true →
      IsPermutation (o ∷ (queue symbol Buy os ++ queue symbol Sell os))
      (queue symbol Buy (o ∷ os) ++ queue symbol Sell (o ∷ os))
  both-sides symbol h = subst (λ b. IsPermutation (o ∷ (queue symbol Buy os ++ queue symbol Sell os))
      (put (b && same_side o.side Buy) symbol Buy ++ put (b && same_side o.side Sell) symbol Sell)) (sym h) (on o.side)
    where
      on : (side : Side) → IsPermutation (o ∷ (queue symbol Buy os ++ queue symbol Sell os))
          (put (same_side side Buy) symbol Buy ++ put (same_side side Sell) symbol Sell)
      on Buy = IsPermutation-append_left (queue symbol Sell os) (o ∷ queue symbol Buy os)
          (insert_by_priority o (queue symbol Buy os))
          (insert-same o (queue symbol Buy os))
      on Sell = IsPermutation-trans (o ∷ (queue symbol Buy os ++ queue symbol Sell os))
          (queue symbol Buy os ++ o ∷ queue symbol Sell os)
          (queue symbol Buy os ++ insert_by_priority o (queue symbol Sell os))
          (IsPermutation-sym (queue symbol Buy os ++ o ∷ queue symbol Sell os)
          (o ∷ (queue symbol Buy os ++ queue symbol Sell os))
          (IsPermutation-middle (queue symbol Buy os) o (queue symbol Sell os)))
          (IsPermutation-append_right (queue symbol Buy os) (o ∷ queue symbol Sell os)
          (insert_by_priority o (queue symbol Sell os))
          (insert-same o (queue symbol Sell os)))

  -- a symbol of its own isn't among those that differ from it
  not-among : (s : List ℕ) (ss : Symbols) → bytes_eq o.symbol s ≡ true
      → list_any (λ other. bytes_eq other s) ss ≡ false →
      list_any (bytes_eq o.symbol) ss ≡ false
  not-among s [] is none = refl
  not-among s (other ∷ ss) is none = elim (bytes_eq other s) as (λ b. bytes_eq other s ≡ b
      → (b || list_any (λ other. bytes_eq other s) ss) ≡ false →
      (bytes_eq o.symbol other || list_any (bytes_eq o.symbol) ss) ≡ false) [
        | true ↦ λ h k. cc
        | false ↦ λ h k. ap (λ b. b || list_any (bytes_eq o.symbol) ss) (apart other h) ∙ not-among s ss is k
      ] refl none
    where
      apart : (other : List ℕ) → bytes_eq other s ≡ false → bytes_eq o.symbol other ≡ false
      apart other h = elim (bytes_eq o.symbol other) as (λ b. bytes_eq o.symbol other ≡ b → b ≡ false) [
        | true ↦ λ k. sym (sym h ∙ (ap (λ x. bytes_eq x s) (sym ((bytes_eq-Decides o.symbol other).0 k)) ∙ is))
        | false ↦ λ k. refl
      ] refl

  listing-more : (ss : Symbols) → all_differ ss ≡ true → list_any (bytes_eq o.symbol) ss ≡ true
      → IsPermutation (o ∷ listing ss os) (listing ss (o ∷ os))
  listing-more [] differ among = cc
  listing-more (s ∷ ss) differ among =
      let apart = differ-parts s ss differ in
      let sides : List Order = queue s Buy os ++ queue s Sell os in
      elim (bytes_eq o.symbol s) as (λ b. bytes_eq o.symbol s ≡ b → (b || list_any (bytes_eq o.symbol) ss) ≡ true →
      IsPermutation (o ∷ listing (s ∷ ss) os) (listing (s ∷ ss) (o ∷ os))) [
        | true ↦ λ h k. subst (λ zs. IsPermutation (o ∷ (sides ++ listing ss os))
            ((queue s Buy (o ∷ os) ++ queue s Sell (o ∷ os)) ++ zs))
            (sym (listing-other ss (not-among s ss h apart.0)))
            (IsPermutation-append_left (listing ss os) (o ∷ sides) (queue s Buy (o ∷ os) ++ queue s Sell (o ∷ os))
            (both-sides s h))
        | false ↦ λ h k.
            let same : queue s Buy (o ∷ os) ++ queue s Sell (o ∷ os) ≡ sides =
            ap (λ xs. xs ++ queue s Sell (o ∷ os)) (queue-other s Buy h)
            ∙ ap (λ xs. queue s Buy os ++ xs) (queue-other s Sell h) in
            subst (λ zs. IsPermutation (o ∷ (sides ++ listing ss os)) (zs ++ listing ss (o ∷ os))) (sym same)
            (IsPermutation-trans (o ∷ (sides ++ listing ss os)) (sides ++ o ∷ listing ss os)
            (sides ++ listing ss (o ∷ os))
            (IsPermutation-sym (sides ++ o ∷ listing ss os) (o ∷ (sides ++ listing ss os))
            (IsPermutation-middle sides o (listing ss os)))
            (IsPermutation-append_right sides (o ∷ listing ss os) (listing ss (o ∷ os)) (listing-more ss apart.1 k)))
      ] refl among

listing-nothing : (ss : Symbols) → listing ss [] ≡ []
listing-nothing [] = refl
listing-nothing (s ∷ ss) = listing-nothing ss

-- orders of the table's symbols are listed, each once
pub listed-once : (ss : Symbols) → all_differ ss ≡ true → (os : List Order)
    → AllByRecursion (λ o. list_any (bytes_eq o.symbol) ss ≡ true) os →
    IsPermutation os (listing ss os)
listed-once ss differ [] all = subst (λ xs. IsPermutation [] xs) (sym (listing-nothing ss)) (IsPermutation-refl [])
listed-once ss differ (o ∷ os) all = IsPermutation-trans (o ∷ os) (o ∷ listing ss os) (listing ss (o ∷ os))
    (IsPermutation-cons o os (listing ss os) (listed-once ss differ os all.1)) (listing-more o os ss differ all.0)

-- WHAT FOLLOWS

pub each-at : (P : Order → Type 0) (xs : List Order) (x : Order) → Contains xs x → AllByRecursion P xs → P x
each-at P xs x there all =
    let split : Split xs x = split-at xs x there in
    (each-back P split.before (x ∷ split.behind) (subst (AllByRecursion P) split.whole all)).0

-- the next is the first of the part of the listing that comes behind
module _ (symbols : Symbols) (from : Option Order) (orders : List Order) where
  abbrev Skipped : Order → Type 0
  Skipped x = comes_behind symbols from x ≡ false

  next-first : (front back : List Order) → IsPermutation orders (front ++ back) → AllByRecursion Skipped front →
      AllByRecursion (λ x. comes_behind symbols from x ≡ true) back → Pairwise (Before symbols) back →
      (next : Option Order) → NextOf symbols from orders next → next ≡ slice_get back 0
  next-first front [] same skipped behind pairs None found = refl
  next-first front [] same skipped behind pairs (Some x) found =
      let passed = found.behind in
      let none = each-at Skipped (front ++ []) x (Contains-permutation orders (front ++ []) x same found.there)
      (each-append Skipped front [] skipped tt) in
      cc
  next-first front (y ∷ ys) same skipped behind pairs None found =
      let none = each-at Skipped orders y
      (Contains-permutation (front ++ y ∷ ys) orders y (IsPermutation-sym orders (front ++ y ∷ ys) same)
      (stands-in front ys y)) found in
      let passed = behind.0 in
      cc
  next-first front (y ∷ ys) same skipped behind pairs (Some x) found =
      let not_before : comes_before symbols y x ≡ false =
      each-at (λ z. comes_behind symbols from z ≡ true → comes_before symbols z x ≡ false) orders y
      (Contains-permutation (front ++ y ∷ ys) orders y (IsPermutation-sym orders (front ++ y ∷ ys) same)
      (stands-in front ys y)) found.first behind.0 in
      each-at Found (front ++ y ∷ ys) x (Contains-permutation orders (front ++ y ∷ ys) x same found.there)
      (each-append Found front (y ∷ ys) (each-map Skipped Found (λ z f t h. cc) front skipped)
      ((λ t h. refl), each-map (Before symbols y) Found (λ z b t h. cc) ys pairs.0))
      found.behind not_before
    where
      Found : Order → Type 0
      Found z = comes_behind symbols from z ≡ true → comes_before symbols y z ≡ false
          → let found : Option Order = Some z in
          found ≡ Some y

-- one order of a list in order, those before it and those behind it
pairs-around : (symbols : Symbols) (before behind : List Order) (o : Order)
    → Pairwise (Before symbols) (before ++ o ∷ behind) →
    AllByRecursion (λ x. comes_before symbols o x ≡ false) before × AllByRecursion (Before symbols o) behind
    × Pairwise (Before symbols) behind
pairs-around symbols [] behind o pairs = (tt, pairs.0, pairs.1)
pairs-around symbols (x ∷ before) behind o pairs =
    let more = pairs-around symbols before behind o pairs.1 in
    ((before-not symbols x o (each-back (Before symbols x) before (o ∷ behind) pairs.0).0, more.0), more.1, more.2)

module _ (symbols : Symbols) (orders : List Order) (greatest : List ℕ) (table : AreSymbols symbols)
    (book : IsBook symbols orders greatest) where
  -- every order of the book is listed, each once
  pub book-listed : IsPermutation orders (listing symbols orders)
  book-listed = listed-once symbols table.differ orders
      (each-map (Belongs symbols greatest) (λ o. list_any (bytes_eq o.symbol) symbols ≡ true) (λ o b. b.symbol) orders
      book.each)

  in_order : Pairwise (Before symbols) (listing symbols orders)
  in_order = listing-in_order orders book.standing.in_time symbols table.differ

  -- from none the next is the first order of the listing
  pub first-listed : (next : Option Order) → NextOf symbols None orders next
      → next ≡ slice_get (listing symbols orders) 0
  first-listed next found = next-first symbols None orders [] (listing symbols orders) book-listed tt
      (each-of (λ x. comes_behind symbols None x ≡ true) (λ x. refl) (listing symbols orders)) in_order next found

  -- from an order of the listing, the one behind it
  pub next-listed : (before behind : List Order) (o : Order) → listing symbols orders ≡ before ++ o ∷ behind →
      (next : Option Order) → (Contains orders o → NextOf symbols (Some o) orders next) → next ≡ slice_get behind 0
  next-listed before behind o split next found =
      let is_listed : Contains (listing symbols orders) o =
      subst (λ os. Contains os o) (sym split) (stands-in before behind o) in
      let rests : Contains orders o = Contains-permutation (listing symbols orders) orders o
      (IsPermutation-sym orders (listing symbols orders) book-listed) is_listed in
      let around = pairs-around symbols before behind o (subst (Pairwise (Before symbols)) split in_order) in
      next-first symbols (Some o) orders (before ++ o ∷ []) behind
      (subst (IsPermutation orders) (split ∙ sym (append_assoc before (o ∷ []) behind)) book-listed)
      (each-append (λ x. comes_before symbols o x ≡ false) before (o ∷ []) around.0 (before-self symbols o, tt))
      around.1 around.2 next (found rests)
