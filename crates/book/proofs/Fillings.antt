-- The first order that an incoming one crosses is the best of its level; a fill of it.
use Rattle.std.proofs.Common.{◌≡◌, ◌+◌, ◌-◌, ◌<◌, ◌≤◌, ℕ, Bool, true, false, ◌&&◌, ◌||◌, nat_eq, nat_lt, List, []}
use Rattle.std.proofs.Common.{◌∷◌, ◌++◌, length, refl, ap, sym, subst, ◌∙◌, inl, inr, Some, None, arith, length-set}
use Rattle.std.specs.Prelude.{◌≢◌, slice_set, option_map, MatchOption, if◌then◌else◌}
use Rattle.std.specs.Str.{bytes_eq}
use Rattle.std.proofs.lemmas.Slice.Eq.{bytes_eq-Decides}
use Rattle.std.proofs.lemmas.Bool.Decides.{nat_tests}
use Rattle.std.proofs.Math.Nat.{mul-le-mul_left}
use Rattle.venue_model.specs.declared.orders.Order.{Order}
use Rattle.venue_model.specs.declared.orders.Side.{Side}
use Rattle.venue_model.specs.declared.orders.Side.TheVariants.{Buy, Sell}
use Rattle.venue_model.specs.Orders.{opposite, leaves, crosses, meets, is_better, ahead, is_live}
use Rattle.venue_model.specs.SideLaws.{met_side}
use Rattle.venue_model.specs.Match.{filled, live_alone}
use Rattle.venue_model.specs.Requests.{is_named}
use Rattle.price_levels.specs.Places.{Places, at, StandsAt, IsOf, Leads, NoneOf, BestOf, PricedBest, HoldsAt, LeavesSome}
use Rattle.price_levels.specs.Places.{reduced, changed}
use Rattle.price_levels.specs.Stamps.{by_stamp, SeatedByStamp}
use Rattle.price_levels.specs.StampLaws.{seated, others, is-within, at-set, each-listed}
use Rattle.book.specs.declared.order_index.slots.IndexEntry.{IndexEntry}
use Rattle.book.specs.IndexNames.{place_of, without_name}
use Rattle.book.specs.Standing.{Rests}
use Rattle.book.specs.Firsts.{NoneCrossed, First, traded, FillsFirst, FillsNone}
use Rattle.book.specs.Keeping.{AreKept}
use Rattle.book.proofs.Keepings.{Shown, as-many, at-here, at-there, kept-leave}
use Rattle.book.proofs.Middles.{some-same, and-first, and-last, not-true, same-or-not}

-- what meets a price meets a better one
met-better : (side : Side) (p q r s t : ℕ) → meets side p (opposite side) q ≡ true
    → (is_better (opposite side) r q || (nat_eq r q && nat_lt s t)) ≡ true
    → meets side p (opposite side) r ≡ true
met-better Buy p q r s t h k = grind (arith, nat_tests)
met-better Sell p q r s t h k = grind (arith, nat_tests)

pub crossed-of : (i x : Order) → crosses i x ≡ true → IsOf i.symbol (opposite i.side) x
crossed-of i x h = record {
  symbol_is = sym ((bytes_eq-Decides i.symbol x.symbol).0
      (and-first (bytes_eq i.symbol x.symbol) (meets i.side i.price x.side x.price) h));
  side_is = met_side i.side i.price x.side x.price
      (and-last (bytes_eq i.symbol x.symbol) (meets i.side i.price x.side x.price) h);
}

-- where one behind it is crossed, so is the one ahead
pub crossed-ahead : (i o x : Order) → IsOf i.symbol (opposite i.side) o → crosses i x ≡ true → ahead o x ≡ true
    → crosses i o ≡ true
crossed-ahead i o x of h leads =
    let its = crossed-of i x h in
    let x_met : meets i.side i.price (opposite i.side) x.price ≡ true =
    ap (λ s. meets i.side i.price s x.price) (sym its.side_is)
    ∙ and-last (bytes_eq i.symbol x.symbol) (meets i.side i.price x.side x.price) h in
    let better : (is_better (opposite i.side) o.price x.price || (nat_eq o.price x.price && nat_lt o.stamp x.stamp))
    ≡ true =
    ap (λ s. is_better s o.price x.price || (nat_eq o.price x.price && nat_lt o.stamp x.stamp)) (sym of.side_is)
    ∙ leads in
    let o_met = met-better i.side i.price x.price o.price o.stamp x.stamp x_met better in
    ap (λ t. t && meets i.side i.price o.side o.price) ((bytes_eq-Decides i.symbol o.symbol).1 (sym of.symbol_is))
    ∙ ap (λ s. meets i.side i.price s o.price) of.side_is ∙ o_met

-- an order in the place of another, of its name
module _ (places : Places) (entries : List IndexEntry) (count : ℕ) (kept : AreKept places entries count) (p : ℕ)
    (o y : Order)
    (stands : at places p ≡ Some o)
    (client : y.client ≡ o.client) (name : y.cl_ord_id ≡ o.cl_ord_id) (rests : Rests y)
  where
    pub kept-change : AreKept (slice_set places p (Some y)) entries count
    kept-change =
        let same = as-many places p o y stands in
        record {
          size = length-set places p (Some y) ∙ kept.size;
          each = λ q x there. elim (at-set places p q (Some y) x there) [
            | inl here ↦ subst Rests (some-same here.1) rests
            | inr was ↦ kept.each q x was.1
          ];
          indexed = record {
            named = λ q x there. elim (at-set places p q (Some y) x there) [
              | inl here ↦
                  let one : y ≡ x = some-same here.1 in
                  ap (λ (z : Order). place_of entries z.client z.cl_ord_id) (sym one)
                  ∙ ap (λ k. place_of entries k y.cl_ord_id) client ∙ ap (λ k. place_of entries o.client k) name
                  ∙ kept.indexed.named p o stands ∙ ap (λ k. Some k) (sym here.0)
              | inr was ↦ kept.indexed.named q x was.1
            ];
            stands = λ c n q has.
                let there = kept.indexed.stands c n q has in
                elim (same-or-not q p) [
                  | inl here ↦
                      let one : there.order ≡ o = some-same (sym there.stands ∙ (ap (at places) here ∙ stands)) in
                      let was : is_named c n o ≡ true = subst (λ z. is_named c n z ≡ true) one there.is_it in
                      record {
                        order = y;
                        stands = ap (at (slice_set places p (Some y))) here
                            ∙ at-here places p (Some y) (is-within places p o stands);
                        is_it = ap (λ k. nat_eq k c && nat_eq y.cl_ord_id n) client
                            ∙ ap (λ k. nat_eq o.client c && nat_eq k n) name ∙ was;
                      }
                  | inr other ↦ record {
                    order = there.order;
                    stands = at-there places p q (Some y) other ∙ there.stands;
                    is_it =
                        there.is_it;
                  }
                ];
          };
          counted = kept.counted ∙ sym same;
          as_many = kept.as_many ∙ sym same;
        }

-- the numbers of a fill that leaves something
fill-rests : (o : Order) (q : ℕ) → Rests o → q < leaves o → Rests (filled o q o.price)
fill-rests o q rests less =
    let range = rests.in_range in
    let cost = mul-le-mul_left q range.price in
    record {
      live = omega (arith, less, rests.live);
      limit = rests.limit;
      in_range = record {
        cum = omega (arith, less);
        total = range.total;
        price = range.price;
        notional = omega (arith, range.notional, cost);
      };
    }

fill-fits : (o : Order) (q : ℕ) → Rests o → q < leaves o → LeavesSome q o
fill-fits o q rests less =
    let range = rests.in_range in
    let cost = mul-le-mul_left q range.price in
    record { some = omega (arith, less); fits = omega (arith, range.notional, cost, range.total, less) }

-- of the orders that stand, none is crossed
none-crossed : (places : Places) (view : List Order) (i : Order) → by_stamp places ≡ view
    → ((p : ℕ) (x : Order) → StandsAt places p x → crosses i x ≡ true → ⊥) → FillsNone i view view
none-crossed places view i is h = record {
  none = subst (NoneCrossed i) is (each-listed (λ x. crosses i x ≡ false) places
      (λ p x there. not-true (crosses i x) (h p x there)));
  same = refl;
}

-- no order of the other side stands
pub fills-none-of : (places : Places) (view : List Order) (i : Order) (side : Side) → by_stamp places ≡ view
    → side ≡ opposite i.side → NoneOf i.symbol side places → FillsNone i view view
fills-none-of places view i side is side_is none = none-crossed places view i is
    (λ p x there h. none p x there (subst (λ s. IsOf i.symbol s x) (sym side_is) (crossed-of i x h)))

-- what the code has read: the best order of the other side
pub record Best (places : Places) (entries : List IndexEntry) (count : ℕ) (view : List Order) (i : Order) (p : ℕ)
    (o : Order) : Type 0 where
  pub shown : Shown places entries count view
  pub best : BestOf i.symbol (opposite i.side) places p
  pub stands : at places p ≡ Some o

module _ {places : Places} {entries : List IndexEntry} {count : ℕ} {view : List Order} {i : Order} {p : ℕ} {o : Order}
    (it : Best places entries count view i p o) where
  it-is : it.best.order ≡ o
  it-is = some-same (sym it.best.stands ∙ it.stands)

  its-of : IsOf i.symbol (opposite i.side) o
  its-of = subst (IsOf i.symbol (opposite i.side)) it-is it.best.is_of

  leads : (q : ℕ) (x : Order) → q ≢ p → StandsAt places q x → crosses i x ≡ true → Leads o x
  leads q x other there h = subst (λ z. Leads z x) it-is (it.best.leads q x other there (crossed-of i x h))

  -- whether it is crossed is a matter of its price
  crosses-priced : (side : Side) (price : ℕ) → side ≡ opposite i.side → it.best.order.price ≡ price
      → crosses i o ≡ meets i.side i.price side price
  crosses-priced side price side_is price_is =
      ap (λ t. t && meets i.side i.price o.side o.price) ((bytes_eq-Decides i.symbol o.symbol).1 (sym its-of.symbol_is))
      ∙ ap (λ s. meets i.side i.price s o.price) (its-of.side_is ∙ sym side_is)
      ∙ ap (λ n. meets i.side i.price side n) (ap (λ (z : Order). z.price) (sym it-is) ∙ price_is)

  -- the best one isn't crossed: none is
  fills-not : crosses i o ≡ false → FillsNone i view view
  fills-not isnt = none-crossed places view i it.shown.list (λ q x there h. elim (same-or-not q p) [
    | inl same ↦
        let one : x ≡ o = some-same (sym there ∙ (ap (at places) same ∙ it.stands)) in
        let crossed : crosses i o ≡ true = subst (λ z. crosses i z ≡ true) one h in
        cc
    | inr other ↦
        let crossed = crossed-ahead i o x its-of h (leads q x other there h).ahead_of in
        cc
  ])

-- and it is crossed
pub record Crossed (places : Places) (entries : List IndexEntry) (count : ℕ) (view : List Order) (i : Order) (p : ℕ)
    (o : Order) : Type 0 where
  pub best : Best places entries count view i p o
  pub crossed : crosses i o ≡ true

module _ {places : Places} {entries : List IndexEntry} {count : ℕ} {view : List Order} {i : Order} {p : ℕ} {o : Order}
    (it : Crossed places entries count view i p o) where
  seat : SeatedByStamp places p o
  seat = seated places p o (is-within places p o it.best.stands) it.best.stands

  first : First i o seat.before seat.behind
  first =
      let both = others (λ x. crosses i x ≡ true → Leads o x) places p o seat
      (λ q x other there h. leads it.best q x other there h) in
      record { is_crossed = it.crossed; leads_before = both.0; leads_behind = both.1 }

  pub can-reduce : {q : ℕ} → q < leaves o → HoldsAt places p (LeavesSome q)
  can-reduce {q} less = subst (λ v. MatchOption v ⊥ (LeavesSome q)) (sym it.best.stands)
      (fill-fits o q (it.best.shown.kept.each p o it.best.stands) less)

  reduced-is : (q : ℕ) → changed (reduced q) places p ≡ slice_set places p (Some (filled o q o.price))
  reduced-is q = ap (λ v. slice_set places p (option_map (reduced q) v)) it.best.stands

  pub kept-reduced : {q : ℕ} {after : Places} → q < leaves o → after ≡ changed (reduced q) places p
      → AreKept after entries count
  kept-reduced {q} less after_is = subst (λ ps. AreKept ps entries count) (sym (after_is ∙ reduced-is q))
      (kept-change places entries count it.best.shown.kept p o (filled o q o.price) it.best.stands refl refl
      (fill-rests o q (it.best.shown.kept.each p o it.best.stands) less))

  live : (y : Order) → 0 < leaves y → is_live y ≡ true
  live y some = grind (arith, nat_tests)

  gone : (y : Order) → leaves y ≡ 0 → is_live y ≡ false
  gone y none = grind (arith, nat_tests)

  pub fills-part : {q : ℕ} {after : Places} → q ≡ leaves i → q < leaves o → after ≡ changed (reduced q) places p
      → FillsFirst i view (by_stamp after) o
  fills-part {q} q_is less after_is =
      let y = filled o q o.price in
      let quantity : q ≡ traded i o = omega (arith, q_is, less) in
      let left : is_live y ≡ true = live y (omega (arith, less)) in
      record {
        before = seat.before;
        behind = seat.behind;
        split = sym it.best.shown.list ∙ seat.split;
        first = first;
        after =
            ap by_stamp (after_is ∙ reduced-is q) ∙ seat.changed y refl
            ∙ ap (λ b. seat.before ++ ((if b then y ∷ [] else []) ++ seat.behind)) (sym left)
            ∙ ap (λ k. seat.before ++ (live_alone (filled o k o.price) ++ seat.behind)) quantity;
      }

  pub fills-whole : {after : Places} → leaves o ≤ leaves i → after ≡ slice_set places p None
      → FillsFirst i view (by_stamp after) o
  fills-whole more after_is =
      let y = filled o (leaves o) o.price in
      let quantity : leaves o ≡ traded i o = omega (arith, more) in
      let none : is_live y ≡ false = gone y (omega arith) in
      record {
        before = seat.before;
        behind = seat.behind;
        split = sym it.best.shown.list ∙ seat.split;
        first = first;
        after =
            ap by_stamp after_is ∙ seat.without
            ∙ ap (λ b. seat.before ++ ((if b then y ∷ [] else []) ++ seat.behind)) (sym none)
            ∙ ap (λ k. seat.before ++ (live_alone (filled o k o.price) ++ seat.behind)) quantity;
      }

  pub kept-whole : {after : Places} {new : List IndexEntry} → after ≡ slice_set places p None
      → place_of new ≡ without_name o.client o.cl_ord_id (place_of entries)
      → length new + 1 ≡ length entries → AreKept after new (count - 1)
  kept-whole {new = new} after_is places_are entries_are = subst (λ ps. AreKept ps new (count - 1)) (sym after_is)
      (kept-leave places entries new count it.best.shown.kept o.client o.cl_ord_id p
      (it.best.shown.kept.indexed.named p o it.best.stands) places_are entries_are)

-- the best order of the other side, whose price is known: whether it is crossed, and an unread one that isn't
module _ {places : Places} {entries : List IndexEntry} {count : ℕ} {view : List Order} {p price : ℕ} {side : Side}
    (i : Order) (shown : Shown places entries count view) (side_is : side ≡ opposite i.side)
    (priced : PricedBest i.symbol side places p price) where
  abbrev its : PricedBest i.symbol (opposite i.side) places p price
  its = subst (λ s. PricedBest i.symbol s places p price) side_is priced

  abbrev best-read : (o : Order) → at places p ≡ Some o → Best places entries count view i p o
  best-read o stands = record { shown = shown; best = its.best; stands = stands }

  price-meets : (o : Order) → at places p ≡ Some o → crosses i o ≡ meets i.side i.price side price
  price-meets o stands = crosses-priced (best-read o stands) side price side_is its.price_is

  pub fills-unread : meets i.side i.price side price ≡ false → FillsNone i view view
  fills-unread far = fills-not (best-read its.best.order its.best.stands)
      (price-meets its.best.order its.best.stands ∙ far)

  pub crossed-read : {o : Order} {met : Bool} → at places p ≡ Some o → met ≡ meets i.side i.price side price
      → met ≡ true → Crossed places entries count view i p o
  crossed-read {o} stands met_is met =
      record { best = best-read o stands; crossed = price-meets o stands ∙ sym met_is ∙ met }
