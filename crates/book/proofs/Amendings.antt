-- An order gets another name and total where it stands.
use Rattle.std.proofs.Common.{◌≡◌, ◌+◌, ◌<◌, ◌≤◌, ℕ, Bool, true, false, List, [], ◌∷◌, length, map, refl, ap, sym}
use Rattle.std.proofs.Common.{subst, ◌∙◌, inl, inr, Some, None, arith, length-set}
use Rattle.std.specs.Prelude.{◌≢◌, slice_set, find, option_map, MatchOption, if◌then◌else◌}
use Rattle.std.proofs.lemmas.Bool.Decides.{nat_tests}
use Rattle.venue_model.specs.declared.orders.Order.{Order}
use Rattle.venue_model.specs.Requests.{is_named}
use Rattle.price_levels.specs.Places.{Places, at, StandsAt, standing, HoldsAt, CanAmend, renamed_to, changed}
use Rattle.price_levels.specs.Stamps.{by_stamp}
use Rattle.price_levels.specs.StampLaws.{at-set, is-within, each-stands}
use Rattle.book.specs.declared.order_index.slots.IndexEntry.{IndexEntry}
use Rattle.book.specs.IndexNames.{PlaceOf, place_of, with_name, without_name, same_name, most_entries}
use Rattle.book.specs.Standing.{Rests, NoneNamed}
use Rattle.book.specs.Keeping.{HasName, AreKept}
use Rattle.book.proofs.NamedLists.{same-names, indexed-as, not-indexed, Sits, sits, finds-it, changes-it}
use Rattle.book.proofs.Keepings.{Shown, as-many, at-here, at-there, same-test}
use Rattle.book.proofs.Middles.{some-same}

named-now : (c n m t : ℕ) (o : Order) → is_named c n o ≡ true → same_name c m o.client m ≡ true
named-now c n m t o h = grind (arith, nat_tests)

named-as : (c n m a b t : ℕ) (o : Order) → is_named c n o ≡ true → same_name c m a b ≡ true
    → is_named a b (renamed_to m t o) ≡ true
named-as c n m a b t o h k = grind (arith, nat_tests)

few-standing : (places : Places) → length (standing places) ≤ length places
few-standing [] = omega arith
few-standing (None ∷ places) = let rest = few-standing places in omega (arith, rest)
few-standing (Some o ∷ places) = let rest = few-standing places in omega (arith, rest)

amend-rests : (o : Order) (m t : ℕ) → Rests o → CanAmend t o → Rests (renamed_to m t o)
amend-rests o m t rests can =
    let range = rests.in_range in
    record {
      live = can.some;
      limit = rests.limit;
      in_range = record {
        cum = omega (arith, can.some);
        total = omega (arith, can.no_more, range.total);
        price = range.price;
        notional = range.notional;
      };
    }

pub amend-there : (c n t : ℕ) (view : List Order) → MatchOption (find (is_named c n) view) ⊥ (CanAmend t)
    → find (is_named c n) view ≢ None
amend-there c n t view asked none = subst (λ o. MatchOption o ⊥ (CanAmend t)) none asked

-- an order that the index has at a place, and what is asked for it: a new name and a total
pub record Amends (places : Places) (entries : List IndexEntry) (count : ℕ) (view : List Order) (c n m t p : ℕ)
    : Type 0 where
  pub shown : Shown places entries count view
  pub place : place_of entries c n ≡ Some p
  pub asked : MatchOption (find (is_named c n) view) ⊥ (CanAmend t)
  pub fresh : NoneNamed c m view

module _ {places : Places} {entries : List IndexEntry} {count : ℕ} {view : List Order} {c n m t p : ℕ}
    (it : Amends places entries count view c n m t p) where
  abbrev kept : AreKept places entries count
  kept = it.shown.kept

  none-fresh : NoneNamed c m (by_stamp places)
  none-fresh = subst (NoneNamed c m) (sym it.shown.list) it.fresh

  its : Sits places entries c n p
  its = sits places entries count kept c n p it.place

  can : CanAmend t its.order
  can = subst (λ o. MatchOption o ⊥ (CanAmend t))
      (ap (find (is_named c n)) (sym it.shown.list) ∙ finds-it places entries c n p its) it.asked

  pub can-amend : (q : ℕ) → q ≡ p → HoldsAt places q (CanAmend t)
  can-amend q same = subst (λ v. MatchOption v ⊥ (CanAmend t)) (sym (ap (at places) same ∙ its.stands)) can

  abbrev order : Order
  order = renamed_to m t its.order

  amended-is : (q : ℕ) → q ≡ p → changed (renamed_to m t) places q ≡ slice_set places p (Some order)
  amended-is q same = ap (changed (renamed_to m t) places) same
      ∙ ap (λ v. slice_set places p (option_map (renamed_to m t) v)) its.stands

  pub amended-orders : (q : ℕ) → q ≡ p → (after : Places) → after ≡ changed (renamed_to m t) places q
      → by_stamp after ≡ map (λ o. if is_named c n o then renamed_to m t o else o) view
  amended-orders q same after after_is =
      ap by_stamp (after_is ∙ amended-is q same) ∙ changes-it places entries c n p its (renamed_to m t) refl
      ∙ ap (map (λ o. if is_named c n o then renamed_to m t o else o)) it.shown.list

  module _ (less : List IndexEntry) (less_is : place_of less ≡ without_name c n (place_of entries))
      (one_less : length less + 1 ≡ length entries) where
    by_less : (a b : ℕ) → place_of less a b ≡ (if same_name c n a b then None else place_of entries a b)
    by_less a b = ap (λ (f : PlaceOf). f a b) less_is

    pub less-fresh : place_of less c m ≡ None
    less-fresh = by_less c m ∙ either (same_name c n c m)
      where
        either : (b : Bool) → (if b then None else place_of entries c m) ≡ None
        either true = refl
        either false = not-indexed places entries kept.indexed c m none-fresh

    pub less-room : length less < most_entries
    less-room = let few = few-standing places in omega (arith, one_less, few, kept.as_many, kept.size)

    module _ (new : List IndexEntry) (new_is : place_of new ≡ with_name c m p (place_of less))
        (one_more : length new ≡ length less + 1) where
      by_new : (a b : ℕ) → place_of new a b ≡ (if same_name c m a b then Some p else
          (if same_name c n a b then None else place_of entries a b))
      by_new a b =
          ap (λ (f : PlaceOf). f a b) new_is
          ∙ ap (λ o. if same_name c m a b then Some p else o) (by_less a b)

      pub kept-amend : (q : ℕ) → q ≡ p → (after : Places) → after ≡ changed (renamed_to m t) places q
          → AreKept after new count
      kept-amend q q_is after after_is = subst (λ ps. AreKept ps new count) (sym (after_is ∙ amended-is q q_is))
          (record {
            size = length-set places p (Some order) ∙ kept.size;
            each = λ k x there. elim (at-set places p k (Some order) x there) [
              | inl here ↦ subst Rests (some-same here.1) rests
              | inr was ↦ kept.each k x was.1
            ];
            indexed = record {
              named = λ k x there. elim (at-set places p k (Some order) x there) [
                | inl here ↦
                    let one : order ≡ x = some-same here.1 in
                    subst (λ (z : Order). place_of new z.client z.cl_ord_id ≡ Some k) one
                    (by_new its.order.client m
                    ∙ ap (λ b. if b then Some p else
                    (if same_name c n its.order.client m then None else place_of entries
                    its.order.client m)) (named-now c n m t its.order its.is_it)
                    ∙ ap (λ j. Some j) (sym here.0))
                | inr was ↦ other-named k x was.0 was.1 (same_name c n x.client x.cl_ord_id) refl
              ];
              stands = λ a b k has. by_test a b k (same_name c m a b) refl (same_name c n a b) refl
                  (sym (by_new a b) ∙ has);
            };
            counted = kept.counted ∙ sym same;
            as_many = one_more ∙ one_less ∙ kept.as_many ∙ sym same;
          })
        where
          rests : Rests order
          rests = amend-rests its.order m t (kept.each p its.order its.stands) can

          same : length (standing (slice_set places p (Some order))) ≡ length (standing places)
          same = as-many places p its.order order its.stands

          other-named : (k : ℕ) (x : Order) → k ≢ p → StandsAt places k x → (b : Bool)
              → same_name c n x.client x.cl_ord_id ≡ b
              → place_of new x.client x.cl_ord_id ≡ Some k
          other-named k x other stands true same = absurd (other
              (some-same (sym (indexed-as places entries kept.indexed c n k x stands same) ∙ it.place)))
          other-named k x other stands false same =
              let isnt = each-stands (λ z. is_named c m z ≡ false) places none-fresh k x
              stands in
              by_new x.client x.cl_ord_id
              ∙ ap (λ b. if b then Some p else
              (if same_name c n x.client x.cl_ord_id then None else place_of entries x.client
              x.cl_ord_id)) isnt
              ∙ ap (λ b. if b then None else place_of entries x.client x.cl_ord_id) same
              ∙ kept.indexed.named k x stands

          by_test : (a b k : ℕ) (u : Bool) → same_name c m a b ≡ u → (v : Bool) → same_name c n a b ≡ v
              → (if u then Some p else (if v then None else place_of entries a b)) ≡ Some k
              → HasName (slice_set places p (Some order)) a b k
          by_test a b k true new_name v old_name has =
              let here : p ≡ k = some-same has in
              subst (λ j. HasName (slice_set places p (Some order)) a b j) here
              (record {
                order = order;
                stands = at-here places p (Some order) (is-within places p its.order its.stands);
                is_it =
                    named-as c n m a b t its.order its.is_it new_name;
              })
          by_test a b k false new_name true old_name has = absurd (let e : None ≡ Some k = has in cc)
          by_test a b k false new_name false old_name has =
              let there = kept.indexed.stands a b k has in
              let other : k ≢ p = λ here.
              let one : there.order ≡ its.order = some-same (sym there.stands ∙ (ap (at places) here ∙ its.stands)) in
              let x = same-names a b its.order (subst (λ o. is_named a b o ≡ true) one there.is_it) in
              let y = same-names c n its.order its.is_it in
              let yes : same_name c n a b ≡ true = same-test c n a b (sym x.0 ∙ y.0) (sym x.1 ∙ y.1) in
              cc in
              record {
                order = there.order;
                stands = at-there places p k (Some order) other ∙ there.stands;
                is_it = there.is_it;
              }
