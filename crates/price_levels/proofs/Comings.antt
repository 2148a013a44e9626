-- An order comes into the levels: the rings, the order of the levels, and what these say of orders are right again.
use Rattle.std.proofs.Common.{◌≡◌, ℕ, ◌+◌, ◌*◌, ◌^◌, ◌<◌, ◌≤◌, List, length, Option, Some, None, refl, ap}
use Rattle.std.proofs.Common.{sym, subst, ◌∙◌, arith}
use Rattle.std.specs.Prelude.{◌≢◌, option_map, MatchOption}
use Rattle.std.proofs.Math.Decide.{ℕ_discrete}
use Rattle.venue_model.specs.declared.orders.Order.{Order}
use Rattle.venue_model.specs.Orders.{leaves}
use Rattle.price_levels.specs.declared.keys.Key.{Key}
use Rattle.price_levels.specs.declared.keys.Level.{Level}
use Rattle.price_levels.specs.declared.nodes.Node.{Node}
use Rattle.price_levels.specs.Places.{ComesLater}
use Rattle.price_levels.specs.Keys.{key_of}
use Rattle.price_levels.specs.Arena.{At, End, leads_to, end_to, key_at, node_at, order_at, first_of, last_of}
use Rattle.price_levels.specs.Arena.{next_point, prev_point, places_of, left_of, orders_of, AreLevels, node_behind}
use Rattle.price_levels.specs.Arena.{nodes_with, IsWithinNodes}
use Rattle.price_levels.proofs.Rings.{Moves, Sets, rings-come, some-same, not-here, key-before}
use Rattle.price_levels.proofs.RingLaws.{Stands, stands}
use Rattle.price_levels.proofs.LevelLists.{Changes}
use Rattle.price_levels.proofs.PointLemmas.{Turns, moves}
use Rattle.price_levels.proofs.NodeLemmas.{Seen, seen-sets, order-is, within-nodes, with-seen, with-here, with-next}
use Rattle.price_levels.proofs.NodeLemmas.{with-next-else, with-prev}
use Rattle.price_levels.proofs.LeftLemmas.{Share, what-is-left, how-many, said_of, total_of, said-is, said-here}
use Rattle.price_levels.proofs.LeftLemmas.{said-again}
use Rattle.price_levels.proofs.LeftLemmas.{left-own, one-own}

-- the last order of a level stands
pub last-stands : (nodes : List Node) (levels : List Level) → AreLevels nodes levels → (k : Key) (q : ℕ)
    → last_of levels k ≡ Some q →
    Stands (order_at nodes) q k
last-stands nodes levels are k q is =
    let prev_is : prev_point nodes levels (End k) ≡ At q = ap (λ x. end_to x k) is in
    stands (order_at nodes) q k (ap (λ x. key_at (order_at nodes) x) (sym prev_is) ∙ key-before (order_at nodes)
    (next_point nodes levels) (prev_point nodes levels) are.rings (End k))

module _ (nodes : List Node) (levels levels' : List Level) (are : AreLevels nodes levels) (p : ℕ) (o : Order)
    (i : ℕ) (last : Option ℕ) (m : Level)
    (within : p < length nodes) (free : order_at nodes p ≡ None) (total : o.total ≤ 1000000)
    (later : ComesLater (places_of nodes) o)
    (last_is : last ≡ last_of levels (key_of o)) (changes : Changes levels levels' (key_of o) (Some m))
    (m_last : m.last ≡ p)
    (m_first : MatchOption last (m.first ≡ p) (λ q. Some m.first ≡ first_of levels (key_of o)))
    (m_left : m.left ≡ left_of levels (key_of o) + leaves o)
    (m_orders : m.orders ≡ orders_of levels (key_of o) + 1) where
  abbrev k : Key
  k = key_of o

  abbrev nodes' : List Node
  nodes' = nodes_with nodes last p o i

  last-in : (l : Option ℕ) → l ≡ last_of levels k → IsWithinNodes nodes l
  last-in None is = tt
  last-in (Some q) is = let at_q = last-stands nodes levels are k q (sym is) in within-nodes nodes q at_q.order at_q.is

  abbrev seen : Seen nodes nodes' p (Some o)
  seen = with-seen nodes last p o i (last-in last last_is) within

  abbrev sets : Sets (order_at nodes) (order_at nodes') p (Some o)
  sets = seen-sets nodes nodes' p (Some o) seen

  first-now : first_of levels' k ≡ Some m.first
  first-now = ap (option_map (λ (l : Level). l.first)) changes.here

  last-now : last_of levels' k ≡ Some p
  last-now = ap (option_map (λ (l : Level). l.last)) changes.here ∙ ap Some m_last

  from-last : (l : Option ℕ) → l ≡ last_of levels k
      → ((q : ℕ) → q ≢ p → l ≡ Some q → (node_at nodes' q).next ≡ Some p) →
      MatchOption l (m.first ≡ p) (λ q. Some m.first ≡ first_of levels k) →
      MatchOption l (first_of levels' k ≡ Some p) (λ q. (q ≢ p)
      × (Stands (order_at nodes) q k × (((node_at nodes' q).next ≡ Some p) ×
      (first_of levels' k ≡ first_of levels k))))
  from-last None is nexts first = first-now ∙ ap Some first
  from-last (Some q) is nexts first =
      let at_q = last-stands nodes levels are k q (sym is) in
      let other : q ≢ p = not-here (order_at nodes) p q at_q.order free at_q.is in
      (other, (at_q, (nexts q other refl, first-now ∙ first)))

  next-turns : Turns (order_at nodes) (λ q. (node_at nodes q).next) (λ q. (node_at nodes' q).next) (first_of levels)
      (first_of levels') p k last (Some p)
  next-turns = record {
    at_from = from-last last last_is (with-next nodes last p o i (last-in last last_is) within) m_first;
    links = with-next-else nodes last p o i (last-in last last_is) within;
    ends = λ j other. ap (option_map (λ (l : Level). l.first)) (changes.others j other);
  }

  prev-turns : Turns (order_at nodes) (λ q. (node_at nodes q).prev) (λ q. (node_at nodes' q).prev) (last_of levels)
      (last_of levels') p k None (Some p)
  prev-turns = record {
    at_from = last-now;
    links = λ q other not. with-prev nodes last p o i (last-in last last_is) within q other;
    ends = λ j other. ap (option_map (λ (l : Level). l.last)) (changes.others j other);
  }

  here-now : node_at nodes' p ≡ node_behind last o i
  here-now = with-here nodes last p o i (last-in last last_is) within

  next-moves : Moves (next_point nodes levels) (next_point nodes' levels') (At p) (end_to last k) (End k) (At p)
  next-moves = moves (order_at nodes) (order_at nodes') (λ q. (node_at nodes q).next) (λ q. (node_at nodes' q).next)
      (first_of levels)
      (first_of levels') p k (Some o) sets
      last (Some p) (End k) next-turns (ap (λ (n : Node). leads_to (Some o) n.next p) here-now)

  to-last : (l : Option ℕ) → leads_to (Some o) l p ≡ end_to l k
  to-last None = refl
  to-last (Some q) = refl

  prev-moves : Moves (prev_point nodes levels) (prev_point nodes' levels') (At p) (End k) (end_to last k) (At p)
  prev-moves = moves (order_at nodes) (order_at nodes') (λ q. (node_at nodes q).prev) (λ q. (node_at nodes' q).prev)
      (last_of levels)
      (last_of levels') p k (Some o) sets
      None (Some p) (end_to last k) prev-turns (ap (λ (n : Node). leads_to (Some o) n.prev p) here-now ∙ to-last last)

  before-end : prev_point nodes levels (End k) ≡ end_to last k
  before-end = ap (λ l. end_to l k) (sym last_is)

  come-later : (q : ℕ) (x : Order) → order_at nodes q ≡ Some x → key_of x ≡ key_of o → x.stamp < o.stamp
  come-later q x is key = later q x (order-is nodes q ∙ is) (record {
    symbol = ap (λ (j : Key). j.symbol) key;
    side = ap (λ (j : Key). j.side) key;
    price = ap (λ (j : Key). j.price) key;
  })

  said-come : (s : Share) (n : ℕ) → s.part k (Some o) ≡ n
      → ((j : Key) → said_of s levels j ≡ total_of s j (places_of nodes)) → s.told m ≡ said_of s levels k + n
      → (j : Key) → said_of s levels' j ≡ total_of s j (places_of nodes')
  said-come s n part said told =
      let not_here = λ (j : Key) (other : j ≢ k). s.nothing j in
      let not_there = λ (j : Key) (other : j ≢ k). s.other j o (λ e. other (sym e)) in
      let m_is = said-is s levels' k m changes.here in
      said-again s nodes nodes' levels levels' p None (Some o) k seen free said changes.others not_here not_there
      (said-here s nodes nodes' levels levels' p None (Some o) k seen free said changes.others not_here not_there
      0 n (s.nothing k) part (omega (arith, m_is, told)))

  pub come : AreLevels nodes' levels'
  come = record {
    bounds = record {
      each = λ q x is. elim (ℕ_discrete q p) [
        | yes here ↦ subst (λ (y : Order). y.total ≤ 1000000)
            (some-same o x (sym sets.here ∙ ap (order_at nodes') (sym here) ∙ is)) total
        | no other ↦ are.bounds.each q x (sym (sets.others q other) ∙ is)
      ];
      fits = let long = seen.long in let fits = are.bounds.fits in subst (λ n. n * 1000000 < 2 ^ 64) (sym long) fits;
    };
    rings = rings-come (order_at nodes) (next_point nodes levels) (prev_point nodes levels) are.rings (order_at nodes')
        (next_point nodes' levels') (prev_point nodes' levels') p o free
        (ap (λ x. leads_to x (node_at nodes p).next p) free) (ap (λ x. leads_to x (node_at nodes p).prev p) free)
        come-later sets
        (subst (λ a. Moves (next_point nodes levels) (next_point nodes' levels') (At p) a (End k) (At p))
        (sym before-end) next-moves)
        (subst (λ a. Moves (prev_point nodes levels) (prev_point nodes' levels') (At p) (End k) a (At p))
        (sym before-end) prev-moves);
    in_order = changes.order;
    left = said-come what-is-left (leaves o) (left-own k (Some o) o refl refl) are.left m_left;
    orders = said-come how-many 1 (one-own k o refl) are.orders m_orders;
  }
