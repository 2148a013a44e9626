-- The calls, as the code makes them.
use Rattle.std.proofs.Common.{◌≡◌, ◌+◌, ◌-◌, ◌<◌, ℕ, not, List, length, refl, ap, sym, subst, ◌∙◌}
use Rattle.std.proofs.Common.{Option, Some, None, arith}
use Rattle.std.specs.Prelude.{◌≢◌, filter, find, slice_set, sum_by, IsSome}
use Rattle.venue_model.specs.declared.orders.Order.{Order}
use Rattle.venue_model.specs.Orders.{leaves, crosses}
use Rattle.venue_model.specs.Match.{crossing}
use Rattle.venue_model.specs.Requests.{is_named, most_resting}
use Rattle.price_levels.specs.Places.{Places, at, standing, ComesLater, InOneLevel, crossing_leaves}
use Rattle.price_levels.specs.Stamps.{by_stamp, Comes}
use Rattle.price_levels.specs.StampLaws.{left-listed, length-listed, comes, each-stands}
use Rattle.book.specs.declared.order_index.slots.IndexEntry.{IndexEntry}
use Rattle.book.specs.IndexNames.{place_of, with_name, without_name}
use Rattle.book.specs.Standing.{Rests, BehindLevel, NoneNamed}
use Rattle.book.specs.Keeping.{AreKept}
use Rattle.book.proofs.NamedLists.{Sits, sits, finds-it, leaves-others, none-named, not-indexed}
use Rattle.book.proofs.Middles.{find-none}
use Rattle.book.proofs.Keepings.{Shown, kept-insert, kept-leave}

module _ {places : Places} {entries : List IndexEntry} {count : ℕ} {view : List Order}
    (it : Shown places entries count view) where
  pub counts : count ≡ length view
  counts = it.kept.counted ∙ sym (length-listed places) ∙ ap length it.list

  pub crosses-total : (incoming : Order) → crossing_leaves incoming.symbol incoming.side incoming.price places
      ≡ sum_by leaves (crossing incoming view)
  crosses-total incoming = sym (left-listed (crosses incoming) places)
      ∙ ap (λ os. sum_by leaves (filter (crosses incoming) os)) it.list

  -- a name that isn't there
  pub finds-none : (c n : ℕ) → place_of entries c n ≡ None → find (is_named c n) view ≡ None
  finds-none c n none = ap (find (is_named c n)) (sym it.list) ∙ find-none (is_named c n) (by_stamp places)
      (none-named places entries it.kept.indexed c n none)

  -- one that is
  pub named-there : (c n : ℕ) → find (is_named c n) view ≢ None → place_of entries c n ≢ None
  named-there c n there none = there (finds-none c n none)

  pub is-there : (c n : ℕ) → find (is_named c n) view ≢ None → (o : Option ℕ) → o ≡ place_of entries c n → IsSome o
  is-there c n there None same = absurd (named-there c n there (sym same))
  is-there c n there (Some p) same = refl

  -- an order comes
  pub later-all : (o : Order) → BehindLevel o view → ComesLater places o
  later-all o later = each-stands (λ x. InOneLevel o x → x.stamp < o.stamp) places
      (subst (BehindLevel o) (sym it.list) later)

  fresh-all : (o : Order) → NoneNamed o.client o.cl_ord_id view → NoneNamed o.client o.cl_ord_id (by_stamp places)
  fresh-all o none = subst (NoneNamed o.client o.cl_ord_id) (sym it.list) none

  pub has-room : length view < most_resting → length (standing places) < length places
  has-room room = let counted = counts in omega (arith, room, counted, it.kept.size, it.kept.counted)

  pub not-there : (o : Order) → NoneNamed o.client o.cl_ord_id view → place_of entries o.client o.cl_ord_id ≡ None
  not-there o none = not-indexed places entries it.kept.indexed o.client o.cl_ord_id (fresh-all o none)

  module _ (o : Order) (p : ℕ) (within : p < length places) (free : at places p ≡ None)
      (after : Places) (after_is : after ≡ slice_set places p (Some o)) where
    pub inserted-orders : Comes o view (by_stamp after)
    inserted-orders = subst (λ old. Comes o old (by_stamp after)) it.list
        (subst (λ ps. Comes o (by_stamp places) (by_stamp ps)) (sym after_is) (comes places p o within free))

    pub inserted-kept : Rests o → NoneNamed o.client o.cl_ord_id view → (q : ℕ) → q ≡ p → (new : List IndexEntry)
        → place_of new ≡ with_name o.client o.cl_ord_id q (place_of entries)
        → length new ≡ length entries + 1 → AreKept after new (count + 1)
    inserted-kept rests none q same new places_are entries_are =
        subst (λ ps. AreKept ps new (count + 1)) (sym after_is)
        (kept-insert places entries new count it.kept p o within free rests (fresh-all o none)
        (places_are ∙ ap (λ k. with_name o.client o.cl_ord_id k (place_of entries)) same) entries_are)

-- the place that the index has for a client's name
pub record NamedAt (places : Places) (entries : List IndexEntry) (count : ℕ) (view : List Order) (c n p : ℕ)
    : Type 0 where
  pub shown : Shown places entries count view
  pub place : place_of entries c n ≡ Some p

pub named-at : {places : Places} {entries : List IndexEntry} {count : ℕ} {view : List Order} {c n p q : ℕ}
    → AreKept places entries count → by_stamp places ≡ view → place_of entries c n ≡ Some q → p ≡ q
    → NamedAt places entries count view c n p
named-at kept list place same = record {
  shown = record { kept = kept; list = list };
  place = place ∙ ap (λ k. Some k) (sym same);
}

module _ {places : Places} {entries : List IndexEntry} {count : ℕ} {view : List Order} {c n p : ℕ}
    (it : NamedAt places entries count view c n p) where
  its : Sits places entries c n p
  its = sits places entries count it.shown.kept c n p it.place

  its-order : find (is_named c n) view ≡ Some its.order
  its-order = ap (find (is_named c n)) (sym it.shown.list) ∙ finds-it places entries c n p its

  pub stands-there : at places p ≢ None
  stands-there none = let stands = its.stands in cc

  pub finds-read : (o : Order) → at places p ≡ Some o → find (is_named c n) view ≡ Some o
  finds-read o read = its-order ∙ sym its.stands ∙ read

  pub stands-as : (o : Order) → find (is_named c n) view ≡ Some o → at places p ≡ Some o
  stands-as o is_it = its.stands ∙ sym its-order ∙ is_it

  -- it is taken out
  pub taken-kept : (after : Places) → after ≡ slice_set places p None → (new : List IndexEntry)
      → place_of new ≡ without_name c n (place_of entries) → length new + 1 ≡ length entries
      → AreKept after new (count - 1)
  taken-kept after after_is new places_are entries_are = subst (λ ps. AreKept ps new (count - 1)) (sym after_is)
      (kept-leave places entries new count it.shown.kept c n p it.place places_are entries_are)

  pub taken-orders : (after : Places) → after ≡ slice_set places p None
      → by_stamp after ≡ filter (λ o. not (is_named c n o)) view
  taken-orders after after_is = ap by_stamp after_is ∙ leaves-others places entries c n p its
      ∙ ap (filter (λ o. not (is_named c n o))) it.shown.list
