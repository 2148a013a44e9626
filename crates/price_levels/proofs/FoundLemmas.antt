-- An order that stands, as the code has read its node, and where the search for its level has led.
use Rattle.std.proofs.Common.{◌≡◌, ℕ, ◌+◌, ◌-◌, ◌^◌, ◌<◌, ◌≤◌, List, [], ◌∷◌, ◌++◌, length, get_or, take, Option, Some}
use Rattle.std.proofs.Common.{None, refl, ap, sym, subst, ◌∙◌, arith, length-append}
use Rattle.std.specs.Prelude.{◌≢◌, slice_set, MatchOption}
use Rattle.std.proofs.lemmas.List.{get_or_default, length-map}
use Rattle.venue_model.specs.declared.orders.Order.{Order}
use Rattle.venue_model.specs.Orders.{leaves}
use Rattle.price_levels.specs.declared.keys.Key.{Key}
use Rattle.price_levels.specs.declared.keys.Level.{Level}
use Rattle.price_levels.specs.declared.nodes.Node.{Node}
use Rattle.price_levels.specs.declared.ladders.Rung.{Rung}
use Rattle.price_levels.specs.Places.{Places, standing, NoneBehind, NextBehind}
use Rattle.price_levels.specs.Keys.{key_of}
use Rattle.price_levels.specs.Arena.{vacant, node_at, order_at, places_of, nodes_without, level_without, levels_with}
use Rattle.price_levels.specs.Arena.{IsWithinNodes, IsArena, AreLevels, IsLevels, IsChange, Replaces, first_in}
use Rattle.price_levels.specs.Ladders.{Laddered, joined, all, rung_number, around, beyond, IsRung, IsOn, IsHome}
use Rattle.price_levels.proofs.LadderLists.{cut, on-ladder}
use Rattle.price_levels.proofs.NodeLemmas.{Seen, within-nodes, without-seen, changed-seen}
use Rattle.price_levels.proofs.ArenaLemmas.{given, stays}
use Rattle.price_levels.proofs.Leavings.{has-level, next-in, prev-in}
use Rattle.price_levels.proofs.Nexts.{neighbour-next, next-level}
use Rattle.price_levels.proofs.Totals.{few}
use Rattle.price_levels.proofs.Ends.{Searched, leave-within, at-its-level, leave-levels, change-fits, change-levels}
use Rattle.price_levels.proofs.Ends.{whole}

pub record Found (nodes : List Node) (l : Laddered) (p : ℕ) (n : Node) (o : Order) (r : Rung) : Type 0 where
  pub are : AreLevels nodes (all l)
  pub read : node_at nodes p ≡ n
  pub here : order_at nodes p ≡ Some o
  pub rung : IsRung l r
  pub home : IsHome l r o.symbol o.side
  pub search : Searched (key_of o) (all l) (rung_number l r)

pub stands-some : (nodes : List Node) (p : ℕ) → order_at nodes p ≢ None → (o : Order) × (order_at nodes p ≡ Some o)
stands-some nodes p some = elim (order_at nodes p) as (λ x. x ≢ None → (o : Order) × (x ≡ Some o)) [
  | None ↦ λ h. absurd (h refl)
  | Some o ↦ λ h. (o, refl)
] some

-- the node that was read, where an order stands
pub node-read : (nodes : List Node) (p : ℕ) (n : Node) → order_at nodes p ≢ None → n ≡ get_or nodes p n
    → node_at nodes p ≡ n
node-read nodes p n some is =
    let it = stands-some nodes p some in
    get_or_default nodes p vacant n (within-nodes nodes p it.0 it.1) ∙ sym is

pub found : {nodes : List Node} {l : Laddered} {p : ℕ} {n : Node} {o : Order} {r : Rung} {k : Key}
    → AreLevels nodes (all l) → order_at nodes p ≢ None → n ≡ get_or nodes p n → n.order ≡ Some o → k ≡ key_of o
    → IsRung l r → IsHome l r k.symbol k.side → Searched k (all l) (rung_number l r) → Found nodes l p n o r
found {nodes} {l} {p} {n} {r = r} are some n_is o_is k_is rung home search =
    let read = node-read nodes p n some n_is in
    record {
      are = are;
      read = read;
      here = ap (λ (m : Node). m.order) read ∙ o_is;
      rung = rung;
      home = subst (λ (j : Key). IsHome l r j.symbol j.side) k_is home;
      search = subst (λ j. Searched j (all l) (rung_number l r)) k_is search;
    }

standing-few : (ps : Places) → length (standing ps) ≤ length ps
standing-few [] = omega arith
standing-few (None ∷ ps) = let rest = standing-few ps in omega (arith, rest)
standing-few (Some o ∷ ps) = let rest = standing-few ps in omega (arith, rest)

module _ {nodes : List Node} {l : Laddered} {p : ℕ} {n : Node} {o : Order} {r : Rung} (it : Found nodes l p n o r) where
  within : rung_number l r < length (all l)
  within = leave-within nodes (all l) it.are p o it.here (rung_number l r) it.search

  its-level : (m : Level) × (m ≡ get_or (all l) (rung_number l r) m)
  its-level =
      let some = (has-level nodes (all l) it.are p o it.here).0 in
      let m = get_or (all l) (rung_number l r) some in
      (m, get_or_default (all l) (rung_number l r) some m within)

  pub on : IsOn l r
  on =
      let m = its-level.0 in
      let key = (at-its-level nodes (all l) it.are p o it.here (rung_number l r) it.search m its-level.1).key in
      let rung = it.rung in
      let whole = cut l.ladders r.ladder rung.ladder in
      record {
        ladder = rung.ladder;
        on = on-ladder o.symbol o.side (joined (take r.ladder l.ladders)) (around l r) (beyond l r) r.at m rung.within
            it.home.alone
            (subst (λ levels. rung_number l r < length levels) whole within)
            (its-level.1 ∙ ap (λ levels. get_or levels (rung_number l r) m) whole)
            (ap (λ (k : Key). k.symbol) key) (ap (λ (k : Key). k.side) key);
      }

  -- there is a place behind it
  pub next-rung : IsRung l (record { ladder = r.ladder; at = r.at + 1 })
  next-rung = let lt = on.on in record { ladder = it.rung.ladder; within = omega (arith, lt) }

  pub next-fits : r.at + 1 < 2 ^ 64
  next-fits =
      let lt = within in
      let no_more = few nodes (all l) it.are in
      let stand = standing-few (places_of nodes) in
      let long = length-map nodes (λ (n : Node). n.order) in
      let fits = it.are.bounds.fits in
      omega (arith, lt, no_more, stand, long, fits)

  -- the first order there is the next one, where it has no neighbour
  pub next-found : n.next ≡ None → (q : Option (ℕ × ℕ))
      → q ≡ first_in o.symbol o.side (all l) (rung_number l (record { ladder = r.ladder; at = r.at + 1 }))
      → MatchOption q (NoneBehind (places_of nodes) p) (λ b. NextBehind (places_of nodes) p b.0)
  next-found none q is =
      let next : rung_number l (record { ladder = r.ladder; at = r.at + 1 }) ≡ rung_number l r + 1 = omega arith in
      next-level nodes (all l) it.are p o it.here (rung_number l r) (ap (λ (m : Node). m.next) it.read ∙ none)
      it.search q (is ∙ ap (first_in o.symbol o.side (all l)) next)

  -- it and its neighbours are nodes, and these meet when it leaves
  pub all-within : (p < length nodes) × IsWithinNodes nodes n.prev × IsWithinNodes nodes n.next
  all-within = (
    within-nodes nodes p o it.here,
    prev-in nodes (all l) it.are p o it.here n.prev (ap (λ (m : Node). m.prev) it.read),
    next-in nodes (all l) it.are p o it.here n.next (ap (λ (m : Node). m.next) it.read),
  )

  gone-seen : Seen nodes (nodes_without nodes p n.prev n.next) p None
  gone-seen = without-seen nodes p n.prev n.next all-within.1 all-within.2 all-within.0

  pub gone-places : places_of (nodes_without nodes p n.prev n.next) ≡ slice_set (places_of nodes) p None
  gone-places = gone-seen.places

  -- the list of free places has room for one more
  pub gone-room : {free : List ℕ} → IsArena nodes free → length free < length nodes
  gone-room {free} arena =
      let all = (given nodes (nodes_without nodes p n.prev n.next) free p o arena it.here gone-seen).all in
      let long = gone-seen.long in
      let parts = length-append free (p ∷ []) in
      omega (arith, all, long, parts)

  pub gone-levels : {nodes' : List Node} {free free' : List ℕ} {levels' : List Level} {q : ℕ} → IsArena nodes free
      → nodes' ≡ nodes_without nodes p n.prev n.next → free' ≡ free ++ p ∷ []
      → ((m : Level) → m ≡ get_or (all l) (rung_number l r) m
      → levels' ≡ levels_with (all l) (rung_number l r) (level_without m n.prev n.next q)) → q ≡ leaves o
      → IsLevels nodes' free' levels'
  gone-levels {nodes'} {free} {free'} {levels'} arena nodes_are free_is levels_are left =
      let at = rung_number l r in
      let m = its-level.0 in
      whole nodes' (nodes_without nodes p n.prev n.next) free' (free ++ p ∷ []) levels'
      (levels_with (all l) at (level_without m n.prev n.next (leaves o))) nodes_are free_is
      (levels_are m its-level.1 ∙ ap (λ x. levels_with (all l) at (level_without m n.prev n.next x)) left)
      (given nodes (nodes_without nodes p n.prev n.next) free p o arena it.here gone-seen)
      (leave-levels nodes (all l) it.are p o it.here at it.search m its-level.1 n.prev n.next
      (ap (λ (m : Node). m.prev) it.read) (ap (λ (m : Node). m.next) it.read))

  -- another order stands in its place
  module _ (y : Order) (change : IsChange (order_at nodes p) y) where
    pub replaces : Replaces o y
    replaces = subst (λ x. IsChange x y) it.here change

    as-read : (P : List Node → Type 0) → P (slice_set nodes p (record (node_at nodes p) { order = Some y }))
        → P (slice_set nodes p (record n { order = Some y }))
    as-read P is = subst (λ (m : Node). P (slice_set nodes p (record m { order = Some y }))) it.read is

    changed : Seen nodes (slice_set nodes p (record (node_at nodes p) { order = Some y })) p (Some y)
    changed = changed-seen nodes p y (within-nodes nodes p o it.here)

    pub changed-places : places_of (slice_set nodes p (record n { order = Some y }))
        ≡ slice_set (places_of nodes) p (Some y)
    changed-places = as-read (λ new. places_of new ≡ slice_set (places_of nodes) p (Some y)) changed.places

    pub changed-free : (free : List ℕ) → IsArena nodes free
        → IsArena (slice_set nodes p (record n { order = Some y })) free
    changed-free free arena = as-read (λ new. IsArena new free)
        (stays nodes (slice_set nodes p (record (node_at nodes p) { order = Some y })) free p o y arena it.here changed)

    -- its level, and what that has left then: so much without the one, and with the other
    module _ {m : Level} (m_is : m ≡ get_or (all l) (rung_number l r) m) where
      pub changed-fits : m.left - leaves o + leaves y < 2 ^ 64
      changed-fits = change-fits nodes (all l) it.are p o it.here (rung_number l r) it.search m m_is y replaces.no_more

      pub changed-levels : {without old new : ℕ} {levels' : List Level} → without ≡ m.left - old → old ≡ leaves o
          → new ≡ leaves y → levels' ≡ slice_set (all l) (rung_number l r) (record m { left = without + new })
          → AreLevels (slice_set nodes p (record n { order = Some y })) levels'
      changed-levels {levels' = levels'} without_is old_is new_is is = as-read (λ new. AreLevels new levels')
          (rw (is, without_is, old_is, new_is)
          (change-levels nodes (all l) it.are p o it.here (rung_number l r) it.search m m_is y replaces))

-- the neighbour that was read is the next order behind it
pub read-neighbour : (nodes : List Node) (levels : List Level) (p : ℕ) (n : Node) (q : ℕ) → AreLevels nodes levels
    → order_at nodes p ≢ None → n ≡ get_or nodes p n → n.next ≡ Some q → NextBehind (places_of nodes) p q
read-neighbour nodes levels p n q are some is next =
    let it = stands-some nodes p some in
    neighbour-next nodes levels are p it.0 it.1 q (ap (λ (m : Node). m.next) (node-read nodes p n some is) ∙ next)

-- where a change is asked for, an order stands
pub change-stands : (x : Option Order) (y : Order) → IsChange x y → x ≢ None
change-stands None y change = λ is. change
change-stands (Some o) y change = λ is. let e : Some o ≡ None = is in cc
