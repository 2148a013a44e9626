-- The next order behind one: the next of its level, or the first of the next level.
use Rattle.std.proofs.Common.{◌≡◌, ℕ, ◌+◌, ◌<◌, ◌≤◌, ◌⊎◌, inl, inr, true, false, List, [], ◌∷◌, ◌++◌, get_or, take}
use Rattle.std.proofs.Common.{drop, Option, Some, None, refl, ap, sym, subst, ◌∙◌, arith, append_assoc}
use Rattle.std.specs.Prelude.{MatchOption}
use Rattle.std.specs.List.{AllByRecursion}
use Rattle.std.proofs.lemmas.List.{get_or_default}
use Rattle.std.proofs.Math.Decide.{ℕ_discrete}
use Rattle.venue_model.specs.declared.orders.Order.{Order}
use Rattle.price_levels.specs.declared.keys.Key.{Key}
use Rattle.price_levels.specs.declared.keys.Level.{Level}
use Rattle.price_levels.specs.declared.nodes.Node.{Node}
use Rattle.price_levels.specs.Places.{StandsAt, IsOf, StandsBehind, NoneBehind, NextBehind}
use Rattle.price_levels.specs.Keys.{key_of, key_before, before_side, InOrder, level_of}
use Rattle.price_levels.specs.Arena.{At, End, end_to, of_side, first_in, node_at, order_at, next_point, prev_point}
use Rattle.price_levels.specs.Arena.{places_of, AreLevels}
use Rattle.price_levels.proofs.KeyLemmas.{key-apart}
use Rattle.price_levels.proofs.Rings.{some-same, at-apart}
use Rattle.price_levels.proofs.RingLaws.{next-behind}
use Rattle.price_levels.proofs.LevelLists.{all-map, all-append, order-back, order-behind, order-before, level-here}
use Rattle.price_levels.proofs.LevelLists.{not-before-key, IsLevelAt}
use Rattle.price_levels.proofs.NodeLemmas.{order-is}
use Rattle.price_levels.proofs.Totals.{first-stands}
use Rattle.price_levels.proofs.Leavings.{has-level, next-is, next-stands}
use Rattle.price_levels.proofs.Ends.{Searched, at-its-level, leave-within}
use Rattle.price_levels.proofs.Groups.{of-means, of-is, false-if, not-both, head_in, first-head, by-stamp, key-ahead}
use Rattle.price_levels.proofs.Groups.{ahead-means, behind-not-before}
use Rattle.price_levels.proofs.Bests.{not-round, of-its-level, first-earlier, none-head, some-head}

module _ (nodes : List Node) (levels : List Level) (are : AreLevels nodes levels) (p : ℕ) (o : Order)
    (here : order_at nodes p ≡ Some o) where
  at-place : (q : ℕ) (x : Order) → StandsAt (places_of nodes) q x → order_at nodes q ≡ Some x
  at-place q x is = sym (order-is nodes q) ∙ is

  is-at : (q : ℕ) (x : Order) → order_at nodes q ≡ Some x → StandsAt (places_of nodes) q x
  is-at q x is = order-is nodes q ∙ is

  -- one that came later into its level stands no nearer than its neighbour
  pub no-nearer : (q r : ℕ) (x y : Order) → (node_at nodes p).next ≡ Some r → order_at nodes r ≡ Some y
      → order_at nodes q ≡ Some x →
      key_of x ≡ key_of o → o.stamp < x.stamp →
      y.stamp ≤ x.stamp
  no-nearer q r x y next at_r at_q key later =
      let near = next-behind (order_at nodes) (next_point nodes levels) (prev_point nodes levels) are.rings p q o x here
      at_q key later in
      let place : r ≡ near.place = at-apart r near.place (ap (λ l. end_to l (key_of o)) (sym next) ∙ sym
      (next-is nodes levels are p o here) ∙ near.leads) in
      let same : y ≡ near.order = some-same y near.order (sym at_r ∙ ap (order_at nodes) place ∙ near.is) in
      let stamp : y.stamp ≡ near.order.stamp = ap (λ (z : Order). z.stamp) same in
      let least = near.least in
      omega (arith, stamp, least)

  -- without a neighbour none came later
  pub none-later : (q : ℕ) (x : Order) → (node_at nodes p).next ≡ None → order_at nodes q ≡ Some x → key_of x ≡ key_of o
      → o.stamp < x.stamp → ⊥
  none-later q x next at_q key later =
      let near = next-behind (order_at nodes) (next_point nodes levels) (prev_point nodes levels) are.rings p q o x here
      at_q key later in
      let e : End (key_of o) ≡ At near.place = ap (λ l. end_to l (key_of o)) (sym next)
      ∙ sym (next-is nodes levels are p o here)
      ∙ near.leads in
      cc

  same-of : (x y : Order) → IsOf o.symbol o.side x → IsOf o.symbol o.side y → IsOf x.symbol x.side y
  same-of x y of_x of_y = record {
    symbol_is = of_y.symbol_is ∙ sym of_x.symbol_is;
    side_is = of_y.side_is ∙ sym of_x.side_is;
  }

  -- the neighbour is next
  pub neighbour-next : (r : ℕ) → (node_at nodes p).next ≡ Some r → NextBehind (places_of nodes) p r
  neighbour-next r next =
      let near = next-stands nodes levels are p o here r next in
      let y = near.order in
      let leads_on : next_point nodes levels (At p) ≡ At r = next-is nodes levels are p o here
      ∙ ap (λ l. end_to l (key_of o)) next in
      let later : o.stamp < y.stamp = are.rings.later p r o y leads_on here near.is in
      let of_y : IsOf o.symbol o.side y = record {
        symbol_is = ap (λ (k : Key). k.symbol) near.key;
        side_is = ap (λ
            (k : Key). k.side) near.key;
      } in
      record {
        order = o;
        next = y;
        stands = is-at p o here;
        next_stands = is-at r y near.is;
        behind = record {
          is_of = of_y;
          ahead = (by-stamp o y of_y.side_is (ap (λ (k : Key). k.price) near.key) later).ahead_of;
        };
        leads = λ q x other is behind.
            let at_q = at-place q x is in
            let of_x = behind.is_of in
            elim (ahead-means o x of_x behind.ahead) [
              | inl before ↦ key-ahead y x (same-of y x of_y of_x) (ap (λ k. key_before k (key_of x)) near.key ∙ before)
              | inr after ↦
                  let key : key_of x ≡ key_of y = after.0 ∙ sym near.key in
                  let no_nearer = no-nearer q r x y next near.is at_q after.0 after.1 in
                  elim (ℕ_discrete y.stamp x.stamp) [
                    | yes equal ↦ absurd (other (are.rings.apart q r x y at_q near.is (sym key) equal))
                    | no differ ↦ by-stamp y x (ap (λ (k : Key). k.side) key) (ap (λ (k : Key). k.price) key) (omega
                        (arith, no_nearer, differ))
                  ]
            ];
      }

  -- the last of its level, which stands at this place: the first of the next level
  module _ (n : ℕ) (last : (node_at nodes p).next ≡ None) (search : Searched (key_of o) levels n) (l : Level)
      (level : IsLevelAt levels n (key_of o) l) where
    abbrev k : Key
    k = key_of o

    abbrev rest : List Level
    rest = drop (n + 1) levels

    whole-order : InOrder (take n levels ++ l ∷ rest)
    whole-order = subst InOrder level.split are.in_order

    rest-behind : AllByRecursion (λ (m : Level). key_before k m.key ≡ true) rest
    rest-behind = subst (λ j. AllByRecursion (λ (m : Level). key_before j m.key ≡ true) rest) level.key (order-behind
        (take n levels) rest l whole-order)

    rest-order : InOrder rest
    rest-order = (order-back (take n levels) (l ∷ rest) whole-order).1

    own-side : of_side o.symbol o.side k ≡ true
    own-side = of-is o.symbol o.side k refl refl

    rest-beyond : AllByRecursion (λ (m : Level). before_side o.symbol o.side m.key ≡ false) rest
    rest-beyond = all-map (λ (m : Level). key_before k m.key ≡ true)
        (λ (m : Level). before_side o.symbol o.side m.key ≡ false)
        (λ m before. false-if (before_side o.symbol o.side m.key)
        (λ h. behind-not-before o.symbol o.side k m.key own-side before h)) rest rest-behind

    -- what holds of all levels behind its own, since it stands for none of the others
    behind-own : (Q : Key → Type 0) → AllByRecursion (λ (m : Level). key_before k m.key ≡ true → Q m.key) rest →
        AllByRecursion (λ (m : Level). key_before k m.key ≡ true → Q m.key) levels
    behind-own Q all = subst (AllByRecursion (λ (m : Level). key_before k m.key ≡ true → Q m.key)) (sym level.split)
        (all-append (λ (m : Level). key_before k m.key ≡ true → Q m.key) (take n levels) (l ∷ rest)
        (all-map (λ (m : Level). key_before m.key k ≡ true) (λ (m : Level). key_before k m.key ≡ true → Q m.key)
        (λ m before after. absurd (not-round k m.key after before)) (take n levels) search.before)
        ((λ after. absurd (key-apart k l.key after (sym level.key))), all))

    of-rest : (Q : Key → Type 0) → AllByRecursion (λ (m : Level). key_before k m.key ≡ true → Q m.key) rest
        → (q : ℕ) (x : Order) →
        order_at nodes q ≡ Some x →
        key_before k (key_of x) ≡ true → Q (key_of x)
    of-rest Q all q x at_q = of-its-level nodes levels are (λ j. key_before k j ≡ true → Q j) q x (behind-own Q all)
        at_q

    by-head : (r : Option (ℕ × ℕ)) → head_in o.symbol o.side rest ≡ r
        → MatchOption r (NoneBehind (places_of nodes) p) (λ b. NextBehind
        (places_of nodes) p b.0)
    by-head None h = λ o' is' q x is behind'.
        let same : o' ≡ o = some-same o' o (sym (at-place p o' is') ∙ here) in
        let behind : StandsBehind o x = subst (λ (z : Order). StandsBehind z x) same behind' in
        let at_q = at-place q x is in
        elim (ahead-means o x behind.is_of behind.ahead) [
          | inr later ↦ none-later q x last at_q later.0 later.1
          | inl before ↦
              let none = none-head o.symbol o.side rest rest-order rest-beyond h in
              not-both (of_side o.symbol o.side (key_of x))
              (of-is o.symbol o.side (key_of x) behind.is_of.symbol_is behind.is_of.side_is)
              (of-rest (λ j. of_side o.symbol o.side j ≡ false)
              (all-map (λ (m : Level). of_side o.symbol o.side m.key ≡ false)
              (λ (m : Level). key_before k m.key ≡ true → of_side o.symbol o.side m.key ≡ false)
              (λ m not after. not) rest none) q x at_q before)
        ]
    by-head (Some f) h =
        let head = some-head o.symbol o.side rest f h in
        let j = head.level.key in
        let split : levels ≡ (take n levels ++ l ∷ []) ++ head.level ∷ head.rest =
        level.split ∙ ap (λ ls. take n levels ++ l ∷ ls) head.split ∙ sym (append_assoc (take n levels) (l ∷ [])
        (head.level ∷ head.rest)) in
        let order : InOrder ((take n levels ++ l ∷ []) ++ head.level ∷ head.rest) = subst InOrder split are.in_order in
        let found : level_of j levels ≡ Some head.level = ap (level_of j) split
        ∙ level-here j (take n levels ++ l ∷ []) head.rest head.level
        (not-before-key j (take n levels ++ l ∷ []) (order-before
        (take n levels ++ l ∷ []) head.rest head.level order)) refl in
        let fo = first-stands nodes levels are j head.level found in
        let means = of-means o.symbol o.side j head.of_side in
        let of_f : IsOf o.symbol o.side fo.order = record {
          symbol_is = ap (λ (i : Key). i.symbol) fo.key ∙ means.0;
          side_is = ap (λ
              (i : Key). i.side) fo.key ∙ means.1;
        } in
        let before_f : key_before k j ≡ true = (subst (AllByRecursion (λ
        (m : Level). key_before k m.key ≡ true)) head.split rest-behind).0 in
        let all_q : AllByRecursion (λ (m : Level). key_before k m.key ≡ true
        → (m.key ≡ j) ⊎ (key_before j m.key ≡ true)) rest =
        subst (AllByRecursion (λ (m : Level). key_before k m.key ≡ true → (m.key ≡ j) ⊎ (key_before j m.key ≡ true)))
        (sym head.split) (
          (λ after. inl refl),
          all-map (λ (m : Level). key_before j m.key ≡ true) (λ (m : Level). key_before k m.key ≡ true → (m.key ≡ j) ⊎
              (key_before j m.key ≡ true))
              (λ m before after. inr before) head.rest
              (order-behind (take n levels ++ l ∷ []) head.rest head.level order),
        ) in
        subst (NextBehind (places_of nodes) p) head.first (record {
          order = o;
          next = fo.order;
          stands = is-at p o here;
          next_stands = is-at head.level.first fo.order fo.is;
          behind = record {
            is_of = of_f;
            ahead = (key-ahead o fo.order of_f (ap (key_before k) fo.key ∙ before_f)).ahead_of;
          };
          leads = λ q x other is behind.
              let at_q = at-place q x is in
              let of_x = behind.is_of in
              elim (ahead-means o x of_x behind.ahead) [
                | inr later ↦ absurd (none-later q x last at_q later.0 later.1)
                | inl before ↦ elim (of-rest (λ i. (i ≡ j) ⊎ (key_before j i ≡ true)) all_q q x at_q before) [
                  | inl same ↦
                      by-stamp fo.order x (of_x.side_is ∙ sym of_f.side_is) (ap (λ (i : Key). i.price) same ∙ sym (ap (λ
                      (i : Key). i.price) fo.key))
                      (first-earlier nodes levels are j head.level found q x at_q same other)
                  | inr further ↦ key-ahead fo.order x (same-of fo.order x of_f of_x)
                      (ap (λ i. key_before i (key_of x)) fo.key ∙ further)
                ]
              ];
        })

    pub level-next : (r : Option (ℕ × ℕ)) → r ≡ first_in o.symbol o.side levels (n + 1)
        → MatchOption r (NoneBehind (places_of nodes) p)
        (λ b. NextBehind (places_of nodes) p b.0)
    level-next r is = by-head r (sym (first-head o.symbol o.side levels (n + 1)) ∙ sym is)

  pub next-level : (n : ℕ) → (node_at nodes p).next ≡ None → Searched (key_of o) levels n →
      (r : Option (ℕ × ℕ)) → r ≡ first_in o.symbol o.side levels (n + 1)
      → MatchOption r (NoneBehind (places_of nodes) p) (λ b. NextBehind
      (places_of nodes) p b.0)
  next-level n last search r is =
      let within = leave-within nodes levels are p o here n search in
      let some = (has-level nodes levels are p o here).0 in
      let l = get_or levels n some in
      level-next n last search l (at-its-level nodes levels are p o here n search l
      (get_or_default levels n some l within)) r is
