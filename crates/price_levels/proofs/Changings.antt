-- An order in the levels is another now, of its level and stamp: all else stays.
use Rattle.std.proofs.Common.{◌≡◌, ℕ, ◌+◌, ◌-◌, ◌*◌, ◌^◌, ◌<◌, ◌≤◌, inl, inr, List, Option, Some, None, refl, ap, sym}
use Rattle.std.proofs.Common.{subst, ◌∙◌, arith}
use Rattle.std.specs.Prelude.{◌≢◌, option_map, slice_set}
use Rattle.std.proofs.Math.Decide.{ℕ_discrete}
use Rattle.venue_model.specs.declared.orders.Order.{Order}
use Rattle.venue_model.specs.Orders.{leaves}
use Rattle.price_levels.specs.declared.keys.Key.{Key}
use Rattle.price_levels.specs.declared.keys.Level.{Level}
use Rattle.price_levels.specs.declared.nodes.Node.{Node}
use Rattle.price_levels.specs.Keys.{key_of, level_of}
use Rattle.price_levels.specs.Arena.{Point, At, End, leads_to, end_to, AreRings, key_at, node_at, order_at, next_point}
use Rattle.price_levels.specs.Arena.{prev_point, places_of, one_in, AreLevels, Replaces, vacant}
use Rattle.price_levels.proofs.KeyLemmas.{decide_key}
use Rattle.price_levels.proofs.Rings.{Sets, some-same}
use Rattle.price_levels.proofs.LevelLists.{Changes}
use Rattle.price_levels.proofs.NodeLemmas.{Seen, seen-sets, within-nodes, changed-seen, member-seen, kept}
use Rattle.price_levels.proofs.LeftLemmas.{Share, what-is-left, how-many, said_of, total_of, said-is, said-here}
use Rattle.price_levels.proofs.LeftLemmas.{said-again}
use Rattle.price_levels.proofs.LeftLemmas.{left-own, one-own}
use Rattle.std.proofs.Math.Seq.{map-set_same}

-- the order that stood at a place: of the same key and stamp
record Stood (order : ℕ → Option Order) (q : ℕ) (x : Order) : Type 0 where
  pub old : Order
  pub was : order q ≡ Some old
  pub key : key_of x ≡ key_of old
  pub stamp : x.stamp ≡ old.stamp

module _ (nodes : List Node) (levels levels' : List Level) (are : AreLevels nodes levels) (p : ℕ) (o y : Order)
    (l m : Level)
    (here : order_at nodes p ≡ Some o) (replaces : Replaces o y) (changes : Changes levels levels' (key_of o) (Some m))
    (level : level_of (key_of o) levels ≡ Some l) (first : m.first ≡ l.first) (last : m.last ≡ l.last)
    (left : m.left ≡ l.left - leaves o + leaves y) (orders : m.orders ≡ l.orders) where
  abbrev k : Key
  k = key_of o

  abbrev nodes' : List Node
  nodes' = slice_set nodes p (record (node_at nodes p) { order = Some y })

  abbrev seen : Seen nodes nodes' p (Some y)
  seen = changed-seen nodes p y (within-nodes nodes p o here)

  abbrev sets : Sets (order_at nodes) (order_at nodes') p (Some y)
  sets = seen-sets nodes nodes' p (Some y) seen

  ends : (f : Level → ℕ) → f m ≡ f l → (j : Key) → option_map f (level_of j levels') ≡ option_map f (level_of j levels)
  ends f same j = elim (decide_key j k) [
    | inl is ↦ ap (λ i. option_map f (level_of i levels')) is ∙ ap (option_map f) changes.here ∙ ap Some same ∙ sym (ap
        (option_map f) level) ∙ sym (ap (λ i. option_map f (level_of i levels)) is)
    | inr other ↦ ap (option_map f) (changes.others j other)
  ]

  keys : (q : ℕ) → option_map key_of (order_at nodes' q) ≡ option_map key_of (order_at nodes q)
  keys q = elim (ℕ_discrete q p) [
    | yes is ↦ ap (λ r. option_map key_of (order_at nodes' r)) is ∙ ap (option_map key_of) sets.here
        ∙ ap Some replaces.key ∙ sym (ap
        (option_map key_of) here) ∙ sym (ap (λ r. option_map key_of (order_at nodes r)) is)
    | no other ↦ ap (option_map key_of) (sets.others q other)
  ]

  leads-same : (x z : Option Order) (neighbour : Option ℕ) (q : ℕ) → option_map key_of x ≡ option_map key_of z →
      leads_to x neighbour q ≡ leads_to z neighbour q
  leads-same None None neighbour q e = refl
  leads-same None (Some b) neighbour q e = let f : None ≡ Some (key_of b) = e in absurd (cc)
  leads-same (Some a) None neighbour q e = let f : Some (key_of a) ≡ None = e in absurd (cc)
  leads-same (Some a) (Some b) None q e = ap End (some-same (key_of a) (key_of b) e)
  leads-same (Some a) (Some b) (Some r) q e = refl

  next-same : (x : Point) → next_point nodes' levels' x ≡ next_point nodes levels x
  next-same (At q) =
      leads-same (order_at nodes' q) (order_at nodes q) (node_at nodes' q).next q (keys q)
      ∙ ap (λ n. leads_to (order_at nodes q) n q)
      (kept (λ n. n.next) nodes nodes' (map-set_same (λ n. n.next) nodes p (record
      (node_at nodes p) { order = Some y }) vacant refl) q)
  next-same (End j) = ap (λ n. end_to n j) (ends (λ n. n.first) first j)

  prev-same : (x : Point) → prev_point nodes' levels' x ≡ prev_point nodes levels x
  prev-same (At q) =
      leads-same (order_at nodes' q) (order_at nodes q) (node_at nodes' q).prev q (keys q)
      ∙ ap (λ n. leads_to (order_at nodes q) n q)
      (kept (λ n. n.prev) nodes nodes' (map-set_same (λ n. n.prev) nodes p (record
      (node_at nodes p) { order = Some y }) vacant refl) q)
  prev-same (End j) = ap (λ n. end_to n j) (ends (λ n. n.last) last j)

  key-same : (x : Point) → key_at (order_at nodes') x ≡ key_at (order_at nodes) x
  key-same (At q) = keys q
  key-same (End j) = refl

  stood : (q : ℕ) (x : Order) → order_at nodes' q ≡ Some x → Stood (order_at nodes) q x
  stood q x is = elim (ℕ_discrete q p) [
    | yes at_p ↦
        let same : y ≡ x = some-same y x (sym sets.here ∙ ap (order_at nodes') (sym at_p) ∙ is) in
        record {
          old = o;
          was = ap (order_at nodes) at_p ∙ here;
          key = ap key_of (sym same) ∙ replaces.key;
          stamp = ap (λ
              (z : Order). z.stamp) (sym same) ∙ replaces.stamp;
        }
    | no other ↦ record { old = x; was = sym (sets.others q other) ∙ is; key = refl; stamp = refl }
  ]

  later-same : (q r : ℕ) (a b : Order) → next_point nodes' levels' (At q) ≡ At r → order_at nodes' q ≡ Some a →
      order_at nodes' r ≡ Some b → a.stamp < b.stamp
  later-same q r a b leads at_q at_r =
      let a_was = stood q a at_q in
      let b_was = stood r b at_r in
      let lt : a_was.old.stamp < b_was.old.stamp = are.rings.later q r a_was.old b_was.old (sym (next-same (At q))
      ∙ leads) a_was.was b_was.was in
      let a_stamp = a_was.stamp in
      let b_stamp = b_was.stamp in
      omega (arith, lt, a_stamp, b_stamp)

  rings' : AreRings (order_at nodes') (next_point nodes' levels') (prev_point nodes' levels')
  rings' = record {
    there = λ x. prev-same (next_point nodes' levels' x) ∙ ap (prev_point nodes levels) (next-same x)
        ∙ are.rings.there x;
    back = λ x. next-same (prev_point nodes' levels' x) ∙ ap (next_point nodes levels) (prev-same x) ∙ are.rings.back x;
    key = λ x. ap (key_at (order_at nodes')) (next-same x) ∙ key-same (next_point nodes levels x) ∙ are.rings.key x
        ∙ sym (key-same x);
    later = later-same;
    apart = λ q r a b at_q at_r same stamp.
        let a_was = stood q a at_q in
        let b_was = stood r b at_r in
        are.rings.apart q r a_was.old b_was.old a_was.was b_was.was (sym b_was.key ∙ same ∙ a_was.key)
        (sym b_was.stamp ∙ stamp
        ∙ a_was.stamp);
  }

  said-changed : (s : Share) (n n' : ℕ) → s.part k (Some o) ≡ n → s.part k (Some y) ≡ n'
      → ((j : Key) → said_of s levels j ≡ total_of s j (places_of nodes)) → s.told m ≡ s.told l - n + n'
      → (j : Key) → said_of s levels' j ≡ total_of s j (places_of nodes')
  said-changed s n n' part part' said told =
      let not_here = λ (j : Key) (other : j ≢ k). s.other j o (λ e. other (sym e)) in
      let not_there = λ (j : Key) (other : j ≢ k). s.other j y (λ e. other (sym e ∙ replaces.key)) in
      let m_is = said-is s levels' k m changes.here in
      let l_is = said-is s levels k l level in
      said-again s nodes nodes' levels levels' p (Some o) (Some y) k seen here said changes.others not_here not_there
      (said-here s nodes nodes' levels levels' p (Some o) (Some y) k seen here said changes.others not_here not_there
      n n' part part' (omega (arith, m_is, l_is, told)))

  -- it is one of them still
  as_many : m.orders ≡ l.orders - 1 + 1
  as_many =
      let counted = are.orders k in
      let l_is = said-is how-many levels k l level in
      let own = one-own k o refl in
      let at_p = ap (one_in k) here in
      let member = member-seen (one_in k) nodes nodes' p (Some y) seen refl in
      omega (arith, orders, counted, l_is, own, at_p, member)

  pub change : AreLevels nodes' levels'
  change = record {
    bounds = record {
      each = λ q x is. elim (ℕ_discrete q p) [
        | yes at_p ↦
            let same : y ≡ x = some-same y x (sym sets.here ∙ ap (order_at nodes') (sym at_p) ∙ is) in
            let total = replaces.total in
            let bound = are.bounds.each p o here in
            subst (λ (z : Order). z.total ≤ 1000000) same (omega (arith, total, bound))
        | no other ↦ are.bounds.each q x (sym (sets.others q other) ∙ is)
      ];
      fits = let long = seen.long in let fits = are.bounds.fits in subst (λ n. n * 1000000 < 2 ^ 64) (sym long) fits;
    };
    rings = rings';
    in_order = changes.order;
    left = said-changed what-is-left (leaves o) (leaves y) (left-own k (Some o) o refl refl)
        (left-own k (Some y) y refl replaces.key) are.left left;
    orders = said-changed how-many 1 1 (one-own k o refl) (one-own k y replaces.key) are.orders as_many;
  }
