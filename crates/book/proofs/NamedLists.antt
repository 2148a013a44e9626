-- The order of a name, at its place and in the list by stamps.
use Rattle.std.proofs.Common.{◌≡◌, ℕ, true, false, not, List, map, refl, ap, sym, ◌∙◌, Option, Some, None, arith}
use Rattle.std.specs.Prelude.{◌≢◌, filter, find, slice_set, if◌then◌else◌}
use Rattle.std.specs.List.{AllByRecursion}
use Rattle.std.proofs.lemmas.Bool.Decides.{nat_tests}
use Rattle.venue_model.specs.declared.orders.Order.{Order}
use Rattle.venue_model.specs.Requests.{is_named}
use Rattle.price_levels.specs.Places.{Places, StandsAt}
use Rattle.price_levels.specs.Stamps.{by_stamp, SeatedByStamp}
use Rattle.price_levels.specs.StampLaws.{seated, others, is-within, each-listed, each-stands}
use Rattle.book.specs.declared.order_index.slots.IndexEntry.{IndexEntry}
use Rattle.book.specs.IndexNames.{place_of}
use Rattle.book.specs.Standing.{NoneNamed}
use Rattle.book.specs.Keeping.{IsIndexed, AreKept}
use Rattle.book.proofs.Middles.{some-same, find-middle, filter-middle, map-middle}

pub same-names : (c n : ℕ) (o : Order) → is_named c n o ≡ true → (o.client ≡ c) × (o.cl_ord_id ≡ n)
same-names c n o h = (grind (arith, nat_tests), grind (arith, nat_tests))

module _ (places : Places) (entries : List IndexEntry) (indexed : IsIndexed places entries) (c n : ℕ) where
  -- the index has the place of each order of this name
  pub indexed-as : (q : ℕ) (x : Order) → StandsAt places q x → is_named c n x ≡ true → place_of entries c n ≡ Some q
  indexed-as q x stands is_it =
      let same = same-names c n x is_it in
      ap (λ k. place_of entries k n) (sym same.0) ∙ ap (λ k. place_of entries x.client k) (sym same.1)
      ∙ indexed.named q x stands

  -- it has none: no order is named so
  pub none-named : place_of entries c n ≡ None → NoneNamed c n (by_stamp places)
  none-named none = each-listed (λ x. is_named c n x ≡ false) places
      (λ q x stands. differs x (λ is_it. let there = indexed-as q x stands is_it in cc))
    where
      differs : (x : Order) → (is_named c n x ≡ true → ⊥) → is_named c n x ≡ false
      differs x h = elim (is_named c n x) as (λ b. (b ≡ true → ⊥) → b ≡ false)
          [ true ↦ λ k. absurd (k refl) | false ↦ λ k. refl ] h

  -- no order is named so: it has none
  pub not-indexed : NoneNamed c n (by_stamp places) → place_of entries c n ≡ None
  not-indexed none = by_place (place_of entries c n) refl
    where
      by_place : (o : Option ℕ) → place_of entries c n ≡ o → place_of entries c n ≡ None
      by_place None is = is
      by_place (Some p) is =
          let there = indexed.stands c n p is in
          let other = each-stands (λ x. is_named c n x ≡ false) places none p there.order there.stands in
          let it = there.is_it in
          absurd (cc)

-- the order that the index has under a name, in the list
pub record Sits (places : Places) (entries : List IndexEntry) (c n p : ℕ) : Type 0 where
  pub order : Order
  pub stands : StandsAt places p order
  pub is_it : is_named c n order ≡ true
  pub seat : SeatedByStamp places p order
  pub not_before : AllByRecursion (λ x. is_named c n x ≡ false) seat.before
  pub not_behind : AllByRecursion (λ x. is_named c n x ≡ false) seat.behind

pub sits : (places : Places) (entries : List IndexEntry) (count : ℕ) → AreKept places entries count → (c n p : ℕ)
    → place_of entries c n ≡ Some p → Sits places entries c n p
sits places entries count kept c n p is =
    let there = kept.indexed.stands c n p is in
    let seat = seated places p there.order (is-within places p there.order there.stands) there.stands in
    let rest = others (λ x. is_named c n x ≡ false) places p there.order seat
    (λ q x other stands. differs q x other stands) in
    record {
      order = there.order;
      stands = there.stands;
      is_it = there.is_it;
      seat = seat;
      not_before = rest.0;
      not_behind = rest.1;
    }
  where
    differs : (q : ℕ) (x : Order) → q ≢ p → StandsAt places q x → is_named c n x ≡ false
    differs q x other stands = elim (is_named c n x) as (λ b. is_named c n x ≡ b → b ≡ false) [
      | true ↦ λ it. let there = indexed-as places entries kept.indexed c n q x stands it in
          absurd (other (some-same (sym there ∙ is)))
      | false ↦ λ it. refl
    ] refl

module _ (places : Places) (entries : List IndexEntry) (c n p : ℕ) (sits : Sits places entries c n p) where
  pub finds-it : find (is_named c n) (by_stamp places) ≡ Some sits.order
  finds-it = ap (find (is_named c n)) sits.seat.split ∙ find-middle (is_named c n) sits.seat.before sits.seat.behind
      sits.order
      sits.is_it sits.not_before

  pub leaves-others : by_stamp (slice_set places p None) ≡ filter (λ o. not (is_named c n o)) (by_stamp places)
  leaves-others = sits.seat.without ∙ sym (ap (filter (λ o. not (is_named c n o))) sits.seat.split
      ∙ filter-middle (is_named c n) sits.seat.before sits.seat.behind sits.order sits.is_it sits.not_before
      sits.not_behind)

  pub changes-it : (f : Order → Order) → (f sits.order).stamp ≡ sits.order.stamp
      → by_stamp (slice_set places p (Some (f sits.order)))
      ≡ map (λ o. if is_named c n o then f o else o) (by_stamp places)
  changes-it f stamp = sits.seat.changed (f sits.order) stamp
      ∙ sym (ap (map (λ o. if is_named c n o then f o else o)) sits.seat.split
      ∙ map-middle (is_named c n) f sits.seat.before sits.seat.behind sits.order sits.is_it sits.not_before
      sits.not_behind)
