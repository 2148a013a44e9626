-- An order leaves the levels: the rings, the order of the levels, and what these say of their orders are right again.
use Rattle.std.proofs.Common.{◌≡◌, ℕ, ◌-◌, ◌*◌, ◌^◌, ◌<◌, List, length, Option, Some, None, refl, ap, sym}
use Rattle.std.proofs.Common.{subst, ◌∙◌, arith}
use Rattle.std.specs.Prelude.{◌≢◌, option_map, MatchOption, unwrap_or}
use Rattle.venue_model.specs.declared.orders.Order.{Order}
use Rattle.venue_model.specs.Orders.{leaves}
use Rattle.price_levels.specs.declared.keys.Key.{Key}
use Rattle.price_levels.specs.declared.keys.Level.{Level}
use Rattle.price_levels.specs.declared.nodes.Node.{Node}
use Rattle.price_levels.specs.Keys.{key_of, level_of}
use Rattle.price_levels.specs.Arena.{Point, At, End, leads_to, end_to, AreRings, key_at, node_at, order_at, first_of}
use Rattle.price_levels.specs.Arena.{last_of, next_point, prev_point, places_of, left_of, orders_of, AreLevels}
use Rattle.price_levels.specs.Arena.{nodes_without, IsWithinNodes}
use Rattle.price_levels.proofs.Rings.{Moves, Sets, rings-left, not-here, key-before, leads-on, leads-back}
use Rattle.price_levels.proofs.RingLaws.{Stands, stands, first}
use Rattle.price_levels.proofs.LevelLists.{Changes}
use Rattle.price_levels.proofs.PointLemmas.{Turns, moves}
use Rattle.price_levels.proofs.NodeLemmas.{Seen, seen-sets, within-nodes, without-seen, without-next, without-next-else}
use Rattle.price_levels.proofs.NodeLemmas.{without-prev, without-prev-else}
use Rattle.price_levels.proofs.LeftLemmas.{Share, what-is-left, how-many, said_of, total_of, said-is, said-here}
use Rattle.price_levels.proofs.LeftLemmas.{said-again}
use Rattle.price_levels.proofs.LeftLemmas.{left-own, one-own, empty-given}

module _ (nodes : List Node) (levels : List Level) (are : AreLevels nodes levels) (p : ℕ) (o : Order)
    (here : order_at nodes p ≡ Some o) where
  abbrev next-at : Point → Point
  next-at = next_point nodes levels

  abbrev prev-at : Point → Point
  prev-at = prev_point nodes levels

  to-end : (l : Option ℕ) → leads_to (Some o) l p ≡ end_to l (key_of o)
  to-end None = refl
  to-end (Some q) = refl

  pub next-is : next-at (At p) ≡ end_to (node_at nodes p).next (key_of o)
  next-is = ap (λ x. leads_to x (node_at nodes p).next p) here ∙ to-end (node_at nodes p).next

  pub prev-is : prev-at (At p) ≡ end_to (node_at nodes p).prev (key_of o)
  prev-is = ap (λ x. leads_to x (node_at nodes p).prev p) here ∙ to-end (node_at nodes p).prev

  -- its neighbours stand in its level
  pub next-stands : (q : ℕ) → (node_at nodes p).next ≡ Some q → Stands (order_at nodes) q (key_of o)
  next-stands q is = stands (order_at nodes) q (key_of o)
      (ap (key_at (order_at nodes)) (sym (next-is ∙ ap (λ l. end_to l (key_of o)) is))
      ∙ are.rings.key (At p) ∙ ap (option_map key_of) here)

  pub prev-stands : (q : ℕ) → (node_at nodes p).prev ≡ Some q → Stands (order_at nodes) q (key_of o)
  prev-stands q is = stands (order_at nodes) q (key_of o)
      (ap (key_at (order_at nodes)) (sym (prev-is ∙ ap (λ l. end_to l (key_of o)) is))
      ∙ key-before (order_at nodes) next-at prev-at are.rings (At p) ∙ ap (option_map key_of) here)

  pub next-other : (q : ℕ) → (node_at nodes p).next ≡ Some q → q ≢ p
  next-other q is = λ same. leads-on (order_at nodes) next-at prev-at are.rings p o here
      (next-is ∙ ap (λ l. end_to l (key_of o)) is
      ∙ ap At same)

  pub prev-other : (q : ℕ) → (node_at nodes p).prev ≡ Some q → q ≢ p
  prev-other q is = λ same. leads-back (order_at nodes) next-at prev-at are.rings p o here (prev-is ∙ ap (λ l. end_to l
      (key_of o)) is ∙ ap At same)

  pub next-in : (l : Option ℕ) → (node_at nodes p).next ≡ l → IsWithinNodes nodes l
  next-in None is = tt
  next-in (Some q) is = let at_q = next-stands q is in within-nodes nodes q at_q.order at_q.is

  pub prev-in : (l : Option ℕ) → (node_at nodes p).prev ≡ l → IsWithinNodes nodes l
  prev-in None is = tt
  prev-in (Some q) is = let at_q = prev-stands q is in within-nodes nodes q at_q.order at_q.is

  -- its level is there
  pub has-level : (l : Level) × (level_of (key_of o) levels ≡ Some l)
  has-level =
      let first = first (order_at nodes) next-at prev-at are.rings p o here in
      elim (level_of (key_of o) levels) as (λ x. end_to (option_map (λ (l : Level). l.first) x) (key_of o)
      ≡ At first.place →
      (l : Level) × (x ≡ Some l)) [
        | None ↦ λ e. let f : End (key_of o) ≡ At first.place = e in absurd (cc)
        | Some l ↦ λ e. (l, refl)
      ] first.leads

  -- it goes, and its level with it or with other ends
  module _ (levels' : List Level) (prev next : Option ℕ) (v : Option Level) (prev_was : (node_at nodes p).prev ≡ prev)
      (next_was :
      (node_at nodes p).next ≡ next)
      (changes : Changes levels levels' (key_of o) v)
      (firsts : MatchOption prev (option_map (λ (l : Level). l.first) v ≡ next) (λ q. option_map (λ
      (l : Level). l.first) v ≡ first_of levels (key_of o)))
      (lasts : MatchOption next (option_map (λ (l : Level). l.last) v ≡ prev) (λ q. option_map (λ
      (l : Level). l.last) v ≡ last_of levels (key_of o)))
      (lefts : MatchOption v ((prev ≡ None) × (next ≡ None)) (λ m. m.left ≡ left_of levels (key_of o) - leaves o))
      (counts : MatchOption v ((prev ≡ None) × (next ≡ None)) (λ m. m.orders ≡ orders_of levels (key_of o) - 1)) where
    abbrev k : Key
    k = key_of o

    abbrev nodes' : List Node
    nodes' = nodes_without nodes p prev next

    within : p < length nodes
    within = within-nodes nodes p o here

    abbrev seen : Seen nodes nodes' p None
    seen = without-seen nodes p prev next (prev-in prev prev_was) (next-in next next_was) within

    abbrev sets : Sets (order_at nodes) (order_at nodes') p None
    sets = seen-sets nodes nodes' p None seen

    from-prev : (l : Option ℕ) → (node_at nodes p).prev ≡ l
        → ((q : ℕ) → q ≢ p → l ≡ Some q → (node_at nodes' q).next ≡ next) →
        MatchOption l (option_map (λ (m : Level). m.first) v ≡ next)
        (λ q. option_map (λ (m : Level). m.first) v ≡ first_of levels k) →
        MatchOption l (first_of levels' k ≡ next) (λ q. (q ≢ p)
        × (Stands (order_at nodes) q k × (((node_at nodes' q).next ≡ next) ×
        (first_of levels' k ≡ first_of levels k))))
    from-prev None was nexts first = ap (option_map (λ (m : Level). m.first)) changes.here ∙ first
    from-prev (Some q) was nexts first = (
      prev-other q was,
      (
        prev-stands q was,
        (
          nexts q (prev-other q was) refl,
          ap (option_map (λ
              (m : Level). m.first)) changes.here ∙ first,
        ),
      ),
    )

    from-next : (l : Option ℕ) → (node_at nodes p).next ≡ l
        → ((q : ℕ) → q ≢ p → l ≡ Some q → (node_at nodes' q).prev ≡ prev) →
        MatchOption l (option_map (λ (m : Level). m.last) v ≡ prev)
        (λ q. option_map (λ (m : Level). m.last) v ≡ last_of levels k) →
        MatchOption l (last_of levels' k ≡ prev) (λ q. (q ≢ p)
        × (Stands (order_at nodes) q k × (((node_at nodes' q).prev ≡ prev) ×
        (last_of levels' k ≡ last_of levels k))))
    from-next None was prevs last = ap (option_map (λ (m : Level). m.last)) changes.here ∙ last
    from-next (Some q) was prevs last = (
      next-other q was,
      (
        next-stands q was,
        (
          prevs q (next-other q was) refl,
          ap (option_map (λ (m : Level). m.last)) changes.here
              ∙ last,
        ),
      ),
    )

    next-turns : Turns (order_at nodes) (λ q. (node_at nodes q).next) (λ q. (node_at nodes' q).next) (first_of levels)
        (first_of levels') p k prev next
    next-turns = record {
      at_from = from-prev prev prev_was
          (without-next nodes p prev next (prev-in prev prev_was) (next-in next next_was) within) firsts;
      links = without-next-else nodes p prev next (prev-in prev prev_was) (next-in next next_was) within;
      ends = λ j other. ap (option_map (λ (l : Level). l.first)) (changes.others j other);
    }

    prev-turns : Turns (order_at nodes) (λ q. (node_at nodes q).prev) (λ q. (node_at nodes' q).prev) (last_of levels)
        (last_of levels') p k next prev
    prev-turns = record {
      at_from = from-next next next_was
          (without-prev nodes p prev next (prev-in prev prev_was) (next-in next next_was) within) lasts;
      links = without-prev-else nodes p prev next (prev-in prev prev_was) (next-in next next_was) within;
      ends = λ j other. ap (option_map (λ (l : Level). l.last)) (changes.others j other);
    }

    next-to : next-at (At p) ≡ end_to next k
    next-to = next-is ∙ ap (λ l. end_to l k) next_was

    prev-to : prev-at (At p) ≡ end_to prev k
    prev-to = prev-is ∙ ap (λ l. end_to l k) prev_was

    next-moves : Moves next-at (next_point nodes' levels') (At p) (prev-at (At p)) (At p) (next-at (At p))
    next-moves = subst (λ a. Moves next-at (next_point nodes' levels') (At p) a (At p) (next-at (At p))) (sym prev-to)
        (subst (λ b. Moves next-at (next_point nodes' levels') (At p) (end_to prev k) (At p) b) (sym next-to)
        (moves (order_at nodes) (order_at nodes') (λ q. (node_at nodes q).next) (λ q. (node_at nodes' q).next)
        (first_of levels)
        (first_of levels') p k None sets
        prev next (At p) next-turns refl))

    prev-moves : Moves prev-at (prev_point nodes' levels') (At p) (next-at (At p)) (At p) (prev-at (At p))
    prev-moves = subst (λ a. Moves prev-at (prev_point nodes' levels') (At p) a (At p) (prev-at (At p))) (sym next-to)
        (subst (λ b. Moves prev-at (prev_point nodes' levels') (At p) (end_to next k) (At p) b) (sym prev-to)
        (moves (order_at nodes) (order_at nodes') (λ q. (node_at nodes q).prev) (λ q. (node_at nodes' q).prev)
        (last_of levels)
        (last_of levels') p k None sets
        next prev (At p) prev-turns refl))

    rings' : AreRings (order_at nodes') (next_point nodes' levels') (prev_point nodes' levels')
    rings' = rings-left (order_at nodes) next-at prev-at are.rings (order_at nodes') (next_point nodes' levels')
        (prev_point nodes' levels') p o here sets next-moves prev-moves

    module _ (s : Share) (n : ℕ) (part : s.part k (Some o) ≡ n)
        (said : (j : Key) → said_of s levels j ≡ total_of s j (places_of nodes)) where
      not-here-now : (j : Key) → j ≢ k → s.part j (Some o) ≡ 0
      not-here-now j other = s.other j o (λ e. other (sym e))

      said-now : (x : Option Level) → level_of k levels' ≡ x → MatchOption x ((prev ≡ None) × (next ≡ None))
          (λ m. s.told m ≡ said_of s levels k - n) → said_of s levels' k ≡ total_of s k (places_of nodes')
      said-now None is gone =
          ap (λ l. unwrap_or (option_map s.told l) 0) is
          ∙ sym (empty-given s nodes' (next_point nodes' levels') (prev_point nodes' levels') rings' k
          (ap (λ l. end_to (option_map (λ (m : Level). m.first) l) k) is))
      said-now (Some m) is less = said-here s nodes nodes' levels levels' p (Some o) None k seen here said
          changes.others not-here-now (λ j other. s.nothing j) n 0 part (s.nothing k)
          (let m_is = said-is s levels' k m is in omega (arith, m_is, less))

      said-gone : MatchOption v ((prev ≡ None) × (next ≡ None)) (λ m. s.told m ≡ said_of s levels k - n) → (j : Key)
          → said_of s levels' j ≡ total_of s j (places_of nodes')
      said-gone less = said-again s nodes nodes' levels levels' p (Some o) None k seen here said changes.others
          not-here-now (λ j other. s.nothing j) (said-now v changes.here less)

    pub gone : AreLevels nodes' levels'
    gone = record {
      bounds = record {
        each = λ q x is. are.bounds.each q x (sym (sets.others q (not-here (order_at nodes') p q x sets.here is)) ∙ is);
        fits = let long = seen.long in let fits = are.bounds.fits in subst (λ n. n * 1000000 < 2 ^ 64) (sym long) fits;
      };
      rings = rings';
      in_order = changes.order;
      left = said-gone what-is-left (leaves o) (left-own k (Some o) o refl refl) are.left lefts;
      orders = said-gone how-many 1 (one-own k o refl) are.orders counts;
    }
