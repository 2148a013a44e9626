-- The best order of a symbol and side, and the next one behind an order.
use Rattle.std.proofs.Common.{◌≡◌, ℕ, ◌<◌, ◌⊎◌, inl, inr, true, false, List, [], ◌∷◌, ◌++◌, take, drop, Option, Some}
use Rattle.std.proofs.Common.{None, refl, ap, sym, subst, ◌∙◌, arith, take-append-drop}
use Rattle.std.specs.Prelude.{◌≢◌, option_map, MatchOption, if◌then◌else◌}
use Rattle.std.specs.List.{AllByRecursion}
use Rattle.std.proofs.Math.Decide.{ℕ_discrete}
use Rattle.venue_model.specs.declared.orders.Side.{Side}
use Rattle.venue_model.specs.declared.orders.Order.{Order}
use Rattle.price_levels.specs.declared.keys.Key.{Key}
use Rattle.price_levels.specs.declared.keys.Level.{Level}
use Rattle.price_levels.specs.declared.nodes.Node.{Node}
use Rattle.price_levels.specs.Places.{StandsAt, IsOf, NoneOf, BestOf, PricedBest}
use Rattle.price_levels.specs.Keys.{key_of, key_before, before_side, InOrder, level_of}
use Rattle.price_levels.specs.Arena.{End, end_to, of_side, head_of, first_in, order_at, next_point, prev_point, places_of}
use Rattle.price_levels.specs.Arena.{AreLevels}
use Rattle.price_levels.proofs.KeyLemmas.{key-apart, key-trans}
use Rattle.price_levels.proofs.Rings.{some-same, at-apart}
use Rattle.price_levels.proofs.RingLaws.{first}
use Rattle.price_levels.proofs.LevelLists.{all-map, all-append, order-back, order-before, order-behind, level-all}
use Rattle.price_levels.proofs.LevelLists.{level-key, level-here, not-before-key}
use Rattle.price_levels.proofs.NodeLemmas.{order-is}
use Rattle.price_levels.proofs.Totals.{first-stands}
use Rattle.price_levels.proofs.Leavings.{has-level}
use Rattle.price_levels.proofs.Groups.{of-means, of-is, of-not-before, beyond, false-if, not-both, head_in, first-head}
use Rattle.price_levels.proofs.Groups.{by-stamp, key-ahead}

-- a key isn't before itself, nor two before one another
pub not-round : (a b : Key) → key_before a b ≡ true → key_before b a ≡ true → ⊥
not-round a b there back = key-apart a a (key-trans a b a there back) refl

module _ (nodes : List Node) (levels : List Level) (are : AreLevels nodes levels) where
  -- an order's level is one of those of which this holds
  pub of-its-level : (P : Key → Type 0) (p : ℕ) (o : Order) → AllByRecursion (λ (l : Level). P l.key) levels →
      order_at nodes p ≡ Some o → P (key_of o)
  of-its-level P p o all here =
      let level = has-level nodes levels are p o here in
      subst P (level-key (key_of o) levels level.0 level.1)
      (level-all (λ l. P l.key) (key_of o) levels level.0 all level.1)

  -- the first order of a level came before the others
  pub first-earlier : (k : Key) (l : Level) (is : level_of k levels ≡ Some l) (q : ℕ) (x : Order)
      → order_at nodes q ≡ Some x →
      key_of x ≡ k → q ≢ l.first →
      (first-stands nodes levels are k l is).order.stamp < x.stamp
  first-earlier k l is q x here key other =
      let fo = first-stands nodes levels are k l is in
      let least = first (order_at nodes) (next_point nodes levels) (prev_point nodes levels) are.rings q x here in
      let place : l.first ≡ least.place = at-apart l.first least.place
      (ap (λ y. end_to (option_map (λ (m : Level). m.first) y) k)
      (sym is) ∙ ap (λ j. next_point nodes levels (End j)) (sym key) ∙ least.leads) in
      let same : fo.order ≡ least.first = some-same fo.order least.first
      (sym fo.is ∙ ap (order_at nodes) place ∙ least.is) in
      let stamp : fo.order.stamp ≡ least.first.stamp = ap (λ (z : Order). z.stamp) same in
      let no_later = least.least in
      elim (ℕ_discrete fo.order.stamp x.stamp) [
        | yes equal ↦ absurd (other (are.rings.apart q l.first x fo.order here fo.is (fo.key ∙ sym key) equal))
        | no differ ↦ omega (arith, stamp, no_later, differ)
      ]

-- the keys of levels that a symbol and side has from a place on: the first, and others behind it
module _ (symbol : List ℕ) (side : Side) where
  -- none
  pub none-head : (ls : List Level) → InOrder ls → AllByRecursion (λ (l : Level). before_side symbol side l.key ≡ false)
      ls →
      head_in symbol side ls ≡ None →
      AllByRecursion (λ (l : Level). of_side symbol side l.key ≡ false) ls
  none-head [] order not none = tt
  none-head (l ∷ ls) order not none = elim (of_side symbol side l.key) as (λ t. of_side symbol side l.key ≡ t →
      (if t then Some (head_of l) else None) ≡ None →
      AllByRecursion (λ (m : Level). of_side symbol side m.key ≡ false) (l ∷ ls)) [
        | true ↦ λ h e. absurd (let f : Some (head_of l) ≡ None = e in cc)
        | false ↦ λ h e. (
          h,
          all-map (λ (m : Level). key_before l.key m.key ≡ true) (λ (m : Level). of_side symbol side m.key ≡ false)
              (λ m before. beyond symbol side l.key m.key before not.0 h) ls order.0,
        )
      ] refl none

  -- the level that heads a list
  pub record Heads (ls : List Level) (f : ℕ × ℕ) : Type 0 where
    pub level : Level
    pub rest : List Level
    pub split : ls ≡ level ∷ rest
    pub of_side : of_side symbol side level.key ≡ true
    pub first : level.first ≡ f.0
    pub price : level.key.price ≡ f.1

  pub some-head : (ls : List Level) (f : ℕ × ℕ) → head_in symbol side ls ≡ Some f → Heads ls f
  some-head [] f e = absurd (let g : None ≡ Some f = e in cc)
  some-head (l ∷ ls) f e = elim (of_side symbol side l.key) as (λ t. of_side symbol side l.key ≡ t →
      (if t then Some (head_of l) else None) ≡ Some f → Heads (l ∷ ls) f) [
        | true ↦ λ h e. record {
          level = l;
          rest = ls;
          split = refl;
          of_side = h;
          first = ap (λ (b : ℕ × ℕ). b.0) (some-same (head_of l) f e);
          price = ap (λ (b : ℕ × ℕ). b.1) (some-same (head_of l) f e);
        }
        | false ↦ λ h e. absurd (let g : None ≡ Some f = e in cc)
      ] refl e

module _ (nodes : List Node) (levels : List Level) (are : AreLevels nodes levels) (symbol : List ℕ) (side : Side) where
  stands-at : (q : ℕ) (x : Order) → StandsAt (places_of nodes) q x → order_at nodes q ≡ Some x
  stands-at q x is = sym (order-is nodes q) ∙ is

  is-at : (q : ℕ) (x : Order) → order_at nodes q ≡ Some x → StandsAt (places_of nodes) q x
  is-at q x is = order-is nodes q ∙ is

  order-of : (x : Order) → IsOf symbol side x → of_side symbol side (key_of x) ≡ true
  order-of x is = of-is symbol side (key_of x) is.symbol_is is.side_is

  -- no level of theirs, no order
  pub none-best : AllByRecursion (λ (l : Level). of_side symbol side l.key ≡ false) levels
      → NoneOf symbol side (places_of nodes)
  none-best none q x is of = not-both (of_side symbol side (key_of x)) (order-of x of)
      (of-its-level nodes levels are (λ k. of_side symbol side k ≡ false) q x none (stands-at q x is))

  -- the first order of their first level
  pub first-best : (l : Level) (is : level_of l.key levels ≡ Some l) → of_side symbol side l.key ≡ true →
      AllByRecursion (λ (m : Level). of_side symbol side m.key ≡ true
      → (m.key ≡ l.key) ⊎ (key_before l.key m.key ≡ true)) levels →
      PricedBest symbol side (places_of nodes) l.first l.key.price
  first-best l is of all =
      let fo = first-stands nodes levels are l.key l is in
      let means = of-means symbol side l.key of in
      let own : IsOf symbol side fo.order = record {
        symbol_is = ap (λ (k : Key). k.symbol) fo.key ∙ means.0;
        side_is = ap (λ
            (k : Key). k.side) fo.key ∙ means.1;
      } in
      let best : BestOf symbol side (places_of nodes) l.first = record {
        order = fo.order;
        stands = is-at l.first fo.order fo.is;
        is_of = own;
        leads = λ q x other here of_x.
            let at_q = stands-at q x here in
            let with_o : IsOf fo.order.symbol fo.order.side x = record {
              symbol_is = of_x.symbol_is ∙ sym own.symbol_is;
              side_is = of_x.side_is ∙ sym own.side_is;
            } in
            elim (of-its-level nodes levels are (λ k. of_side symbol side k ≡ true → (k ≡ l.key) ⊎
            (key_before l.key k ≡ true)) q x all at_q (order-of x of_x)) [
              | inl same ↦ by-stamp fo.order x with_o.side_is
                  (ap (λ (k : Key). k.price) same ∙ sym (ap (λ (k : Key). k.price) fo.key))
                  (first-earlier nodes levels are l.key l is q x at_q same other)
              | inr before ↦ key-ahead fo.order x with_o (ap (λ k. key_before k (key_of x)) fo.key ∙ before)
            ];
      } in
      record { best = best; price_is = ap (λ (k : Key). k.price) fo.key }

  module _ (n : ℕ) (before : AllByRecursion (λ (l : Level). before_side symbol side l.key ≡ true) (take n levels))
      (behind : AllByRecursion (λ (l : Level). before_side symbol side l.key ≡ false) (drop n levels)) where
    rest-order : InOrder (drop n levels)
    rest-order = order-back (take n levels) (drop n levels)
        (subst InOrder (sym (take-append-drop n levels)) are.in_order)

    front-none : AllByRecursion (λ (l : Level). of_side symbol side l.key ≡ false) (take n levels)
    front-none = all-map (λ (l : Level). before_side symbol side l.key ≡ true)
        (λ (l : Level). of_side symbol side l.key ≡ false)
        (λ l h. false-if (of_side symbol side l.key) (λ of. of-not-before symbol side l.key of h)) (take n levels)
        before

    by-head : (r : Option (ℕ × ℕ)) → head_in symbol side (drop n levels) ≡ r
        → MatchOption r (NoneOf symbol side (places_of nodes))
        (λ b. PricedBest symbol side (places_of nodes) b.0 b.1)
    by-head None h = none-best (subst (AllByRecursion (λ (l : Level). of_side symbol side l.key ≡ false))
        (take-append-drop n levels)
        (all-append (λ (l : Level). of_side symbol side l.key ≡ false) (take n levels) (drop n levels) front-none
        (none-head symbol side (drop n levels) rest-order behind h)))
    by-head (Some f) h =
        let head = some-head symbol side (drop n levels) f h in
        let whole : levels ≡ take n levels ++ head.level ∷ head.rest = sym (take-append-drop n levels) ∙ ap
        (λ ls. take n levels ++ ls) head.split in
        let order : InOrder (take n levels ++ head.level ∷ head.rest) = subst InOrder whole are.in_order in
        let k = head.level.key in
        let found : level_of k levels ≡ Some head.level = ap (level_of k) whole
        ∙ level-here k (take n levels) head.rest head.level (not-before-key k (take n levels) (order-before
        (take n levels) head.rest head.level order)) refl in
        let Q : Level → Type 0 = λ m. of_side symbol side m.key ≡ true → (m.key ≡ k) ⊎ (key_before k m.key ≡ true) in
        subst (λ p. PricedBest symbol side (places_of nodes) p f.1) head.first (subst (λ n. PricedBest symbol side
        (places_of nodes) head.level.first n) head.price (first-best head.level found head.of_side
        (subst (AllByRecursion Q) (sym whole) (all-append Q (take n levels) (head.level ∷ head.rest)
        (all-map (λ (l : Level). of_side symbol side l.key ≡ false) Q (λ m not of. absurd (not-both
        (of_side symbol side m.key) of not)) (take n levels) front-none) (
          (λ of. inl refl),
          all-map (λ (m : Level). key_before k m.key ≡ true) Q (λ m before of. inr before) head.rest (order-behind
              (take n levels) head.rest head.level order),
        )))))

    pub best-is : (r : Option (ℕ × ℕ)) → r ≡ first_in symbol side levels n
        → MatchOption r (NoneOf symbol side (places_of nodes))
        (λ b. PricedBest symbol side (places_of nodes) b.0 b.1)
    best-is r is = by-head r (sym (first-head symbol side levels n) ∙ sym is)
