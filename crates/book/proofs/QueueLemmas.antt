-- The first order of a symbol and side, and the next, by the places and in the list.
use Rattle.std.proofs.Common.{◌≡◌, ℕ, true, false, ◌&&◌, ◌||◌, nat_eq, nat_lt, List, ap, sym, subst, ◌∙◌, inl, inr}
use Rattle.std.proofs.Common.{Some, arith}
use Rattle.std.specs.List.{AllByRecursion}
use Rattle.std.specs.Str.{bytes_eq}
use Rattle.std.proofs.lemmas.Slice.Eq.{bytes_eq-Decides}
use Rattle.std.proofs.lemmas.Bool.Decides.{nat_tests}
use Rattle.venue_model.specs.declared.orders.Order.{Order}
use Rattle.venue_model.specs.declared.orders.Side.{Side}
use Rattle.venue_model.specs.declared.orders.Side.TheVariants.{Buy, Sell}
use Rattle.venue_model.specs.Orders.{same_side, is_better, ahead}
use Rattle.venue_model.specs.SideLaws.{one_side, side_itself}
use Rattle.price_levels.specs.Places as levels
use Rattle.price_levels.specs.Places.{Places, at, StandsAt, IsOf, Leads, BestOf, StandsBehind, NextBehind}
use Rattle.price_levels.specs.Stamps.{SeatedByStamp}
use Rattle.price_levels.specs.StampLaws.{seated, is-within, each-listed}
use Rattle.book.specs.declared.order_index.slots.IndexEntry.{IndexEntry}
use Rattle.book.specs.Queues.{is_of, NoneQueuedOf, IsFirst, NoneQueuedBehind, IsQueuedNext}
use Rattle.book.proofs.Keepings.{Shown}
use Rattle.book.proofs.Middles.{some-same, and-first, and-last, not-true, same-or-not}

of-test : (symbol : List ℕ) (side : Side) (x : Order) → is_of symbol side x ≡ true → IsOf symbol side x
of-test symbol side x h = record {
  symbol_is = (bytes_eq-Decides x.symbol symbol).0 (and-first (bytes_eq x.symbol symbol) (same_side x.side side) h);
  side_is = one_side x.side side (and-last (bytes_eq x.symbol symbol) (same_side x.side side) h);
}

test-of : (symbol : List ℕ) (side : Side) (x : Order) → IsOf symbol side x → is_of symbol side x ≡ true
test-of symbol side x of =
    ap (λ t. t && same_side x.side side) ((bytes_eq-Decides x.symbol symbol).1 of.symbol_is)
    ∙ side_itself x.side side of.side_is

not-itself : (side : Side) (p s : ℕ) → (is_better side p p || (nat_eq p p && nat_lt s s)) ≡ false
not-itself Buy p s = grind (arith, nat_tests)
not-itself Sell p s = grind (arith, nat_tests)

module _ {places : Places} {entries : List IndexEntry} {count : ℕ} {view : List Order}
    (it : Shown places entries count view) where
  seat : (p : ℕ) (o : Order) → at places p ≡ Some o → SeatedByStamp places p o
  seat p o stands = seated places p o (is-within places p o stands) stands

  one-order : (p q : ℕ) (o x : Order) → at places p ≡ Some o → q ≡ p → at places q ≡ Some x → x ≡ o
  one-order p q o x stands same there = some-same (sym there ∙ (ap (at places) same ∙ stands))

  module _ (symbol : List ℕ) (side : Side) where
    pub first-none : levels.NoneOf symbol side places → NoneQueuedOf symbol side view
    first-none none = subst (NoneQueuedOf symbol side) it.list
        (each-listed (λ x. is_of symbol side x ≡ false) places
        (λ q x there. not-true (is_of symbol side x) (λ h. none q x there (of-test symbol side x h))))

    pub first-some : (p : ℕ) → BestOf symbol side places p → (o : Order) → at places p ≡ Some o
        → IsFirst symbol side view o
    first-some p best o stands =
        let same : best.order ≡ o = some-same (sym best.stands ∙ stands) in
        let its_seat = seat p o stands in
        record {
          before = its_seat.before;
          behind = its_seat.behind;
          split = sym it.list ∙ its_seat.split;
          its = test-of symbol side o (subst (IsOf symbol side) same best.is_of);
          first = subst (AllByRecursion (λ x. is_of symbol side x ≡ true → ahead x o ≡ false)) it.list
              (each-listed (λ x. is_of symbol side x ≡ true → ahead x o ≡ false) places
              (λ q x there of. elim (same-or-not q p) [
                | inl here ↦ ap (λ z. ahead z o) (one-order p q o x stands here there)
                    ∙ not-itself o.side o.price o.stamp
                | inr other ↦ (subst (λ z. Leads z x) same
                    (best.leads q x other there (of-test symbol side x of))).not_behind
              ]));
        }

  module _ (p : ℕ) (o : Order) (stands : at places p ≡ Some o) where
    pub next-none : levels.NoneBehind places p → NoneQueuedBehind view o
    next-none none = subst (λ os. NoneQueuedBehind os o) it.list
        (each-listed (λ x. is_of o.symbol o.side x ≡ true → ahead o x ≡ false) places
        (λ q x there of. not-true (ahead o x)
        (λ h. none o stands q x there (record { is_of = of-test o.symbol o.side x of; ahead = h }))))

    pub next-some : (q : ℕ) → NextBehind places p q → (y : Order) → at places q ≡ Some y → IsQueuedNext view o y
    next-some q next y there =
        let same : next.order ≡ o = some-same (sym next.stands ∙ stands) in
        let its : next.next ≡ y = some-same (sym next.next_stands ∙ there) in
        let behind : StandsBehind o y = subst (λ z. StandsBehind z y) same
        (subst (StandsBehind next.order) its next.behind) in
        let its_seat = seat q y there in
        record {
          before = its_seat.before;
          behind = its_seat.behind;
          split = sym it.list ∙ its_seat.split;
          its = test-of o.symbol o.side y behind.is_of;
          stands_behind = behind.ahead;
          first = subst (AllByRecursion (λ x. is_of o.symbol o.side x ≡ true → ahead o x ≡ true → ahead x y ≡ false))
              it.list
              (each-listed (λ x. is_of o.symbol o.side x ≡ true → ahead o x ≡ true → ahead x y ≡ false) places
              (λ r x x_there of h. elim (same-or-not r q) [
                | inl here ↦ ap (λ z. ahead z y) (one-order q r y x there here x_there)
                    ∙ not-itself y.side y.price y.stamp
                | inr other ↦
                    let its_behind : StandsBehind o x = record { is_of = of-test o.symbol o.side x of; ahead = h } in
                    (subst (λ z. Leads z x) its (next.leads r x other x_there
                    (subst (λ z. StandsBehind z x) (sym same) its_behind))).not_behind
              ]));
        }
