-- Nodes that are written: what stands at each place then, and its neighbours.
use Rattle.std.proofs.Common.{◌≡◌, ℕ, zero, suc, ◌+◌, ◌<◌, ◌≤◌, inl, inr, List, [], ◌∷◌, length, map, get_or, Option}
use Rattle.std.proofs.Common.{Some, None, refl, ap, sym, ◌∙◌, arith}
use Rattle.std.specs.Prelude.{◌≢◌, slice_set, sum_by}
use Rattle.std.proofs.lemmas.Bool.{cases_lt}
use Rattle.std.proofs.lemmas.List.{map-set, length-map, length-set, get_or-set_same, get_or-set_other, get_or_past}
use Rattle.std.proofs.lemmas.List.Sums.{sum_by-set}
use Rattle.std.proofs.Math.ListN.{get_or-map}
use Rattle.std.proofs.Math.Seq.{map-set_same}
use Rattle.venue_model.specs.declared.orders.Order.{Order}
use Rattle.price_levels.specs.declared.nodes.Node.{Node}
use Rattle.price_levels.specs.Places.{Places, at, standing}
use Rattle.price_levels.specs.Arena.{vacant, node_at, order_at, places_of, set_next, set_prev, node_behind, nodes_with}
use Rattle.price_levels.specs.Arena.{nodes_without, IsWithinNodes}
use Rattle.price_levels.proofs.Rings.{Sets}

-- a part of the nodes that is as it was everywhere is as it was at each place
pub kept : {Y : Type 0} (f : Node → Y) (nodes nodes' : List Node) → map f nodes' ≡ map f nodes → (q : ℕ)
    → f (node_at nodes' q) ≡ f
    (node_at nodes q)
kept f nodes nodes' same q = sym (get_or-map f nodes' q vacant) ∙ ap (λ l. get_or l q (f vacant)) same
    ∙ get_or-map f nodes q vacant

pub order-is : (nodes : List Node) (q : ℕ) → at (places_of nodes) q ≡ order_at nodes q
order-is nodes q = get_or-map (λ n. n.order) nodes q vacant

pub beyond : (nodes : List Node) (q : ℕ) → length nodes ≤ q → order_at nodes q ≡ None
beyond nodes q h = ap (λ (n : Node). n.order) (get_or_past nodes q vacant h)

pub within-nodes : (nodes : List Node) (q : ℕ) (o : Order) → order_at nodes q ≡ Some o → q < length nodes
within-nodes nodes q o is = elim (cases_lt q (length nodes)) [
  | inl lt ↦ lt
  | inr h ↦ let e : None ≡ Some o = sym (beyond nodes q h) ∙ is in absurd (cc)
]

-- writing a neighbour
pub next-kept : {Y : Type 0} (f : Node → Y) → ((n : Node) (v : Option ℕ) → f (record n { next = v }) ≡ f n) →
    (nodes : List Node) (m v : Option ℕ) → map f (set_next nodes m v) ≡ map f nodes
next-kept f same nodes None v = refl
next-kept f same nodes (Some p) v = map-set_same f nodes p (record (node_at nodes p) { next = v }) vacant
    (same (node_at nodes p) v)

pub prev-kept : {Y : Type 0} (f : Node → Y) → ((n : Node) (v : Option ℕ) → f (record n { prev = v }) ≡ f n) →
    (nodes : List Node) (m v : Option ℕ) → map f (set_prev nodes m v) ≡ map f nodes
prev-kept f same nodes None v = refl
prev-kept f same nodes (Some p) v = map-set_same f nodes p (record (node_at nodes p) { prev = v }) vacant
    (same (node_at nodes p) v)

pub length-next : (nodes : List Node) (m v : Option ℕ) → length (set_next nodes m v) ≡ length nodes
length-next nodes None v = refl
length-next nodes (Some p) v = length-set nodes p (record (node_at nodes p) { next = v })

pub length-prev : (nodes : List Node) (m v : Option ℕ) → length (set_prev nodes m v) ≡ length nodes
length-prev nodes None v = refl
length-prev nodes (Some p) v = length-set nodes p (record (node_at nodes p) { prev = v })

pub written : (nodes : List Node) (p : ℕ) (n : Node) → p < length nodes → node_at (slice_set nodes p n) p ≡ n
written nodes p n within = get_or-set_same nodes p n vacant within

pub not-written : (nodes : List Node) (p q : ℕ) (n : Node) → q ≢ p → node_at (slice_set nodes p n) q ≡ node_at nodes q
not-written nodes p q n other = get_or-set_other nodes p q n vacant other

next-there : (nodes : List Node) (m v : Option ℕ) (q : ℕ) → IsWithinNodes nodes m → m ≡ Some q
    → (node_at (set_next nodes m v) q).next ≡ v
next-there nodes None v q within is = let e : None ≡ Some q = is in absurd (cc)
next-there nodes (Some p) v q within is =
    let same : q ≡ p = cc in
    ap (λ r. (node_at (set_next nodes (Some p) v) r).next) same ∙ ap (λ (n : Node). n.next) (written nodes p (record
    (node_at nodes p) { next = v }) within)

prev-there : (nodes : List Node) (m v : Option ℕ) (q : ℕ) → IsWithinNodes nodes m → m ≡ Some q
    → (node_at (set_prev nodes m v) q).prev ≡ v
prev-there nodes None v q within is = let e : None ≡ Some q = is in absurd (cc)
prev-there nodes (Some p) v q within is =
    let same : q ≡ p = cc in
    ap (λ r. (node_at (set_prev nodes (Some p) v) r).prev) same ∙ ap (λ (n : Node). n.prev) (written nodes p (record
    (node_at nodes p) { prev = v }) within)

next-else : (nodes : List Node) (m v : Option ℕ) (q : ℕ) → m ≢ Some q → node_at (set_next nodes m v) q ≡ node_at nodes q
next-else nodes None v q other = refl
next-else nodes (Some p) v q other = not-written nodes p q (record (node_at nodes p) { next = v })
    (λ is. other (ap Some (sym is)))

prev-else : (nodes : List Node) (m v : Option ℕ) (q : ℕ) → m ≢ Some q → node_at (set_prev nodes m v) q ≡ node_at nodes q
prev-else nodes None v q other = refl
prev-else nodes (Some p) v q other = not-written nodes p q (record (node_at nodes p) { prev = v })
    (λ is. other (ap Some (sym is)))

-- what contracts see of the nodes when one place is another
pub record Seen (old new : List Node) (p : ℕ) (o : Option Order) : Type 0 where
  pub places : places_of new ≡ slice_set (places_of old) p o
  pub long : length new ≡ length old
  pub within : p < length old

pub seen-sets : (old new : List Node) (p : ℕ) (o : Option Order) → Seen old new p o
    → Sets (order_at old) (order_at new) p o
seen-sets old new p o seen =
    let long : length (places_of old) ≡ length old = length-map old (λ (n : Node). n.order) in
    let within = seen.within in
    record {
      here = sym (order-is new p) ∙ ap (λ ps. at ps p) seen.places
          ∙ get_or-set_same (places_of old) p o None (omega (arith, long, within));
      others = λ q other. sym (order-is new q) ∙ ap (λ ps. at ps q) seen.places
          ∙ get_or-set_other (places_of old) p q o None other
          ∙ order-is old q;
    }

-- an order comes to a place
module _ (nodes : List Node) (last : Option ℕ) (p : ℕ) (o : Order) (i : ℕ) (last_in : IsWithinNodes nodes last)
    (within : p < length nodes) where
  pub with-within : p < length (set_next nodes last (Some p))
  with-within = let long = length-next nodes last (Some p) in omega (arith, long, within)

  pub with-seen : Seen nodes (nodes_with nodes last p o i) p (Some o)
  with-seen = record {
    places = map-set (λ n. n.order) (set_next nodes last (Some p)) p (node_behind last o i)
        ∙ ap (λ ps. slice_set ps p (Some o))
        (next-kept (λ n. n.order) (λ n v. refl) nodes last (Some p));
    long = length-set (set_next nodes last (Some p)) p (node_behind last o i) ∙ length-next nodes last (Some p);
    within = within;
  }

  pub with-here : node_at (nodes_with nodes last p o i) p ≡ node_behind last o i
  with-here = written (set_next nodes last (Some p)) p (node_behind last o i) with-within

  pub with-next : (q : ℕ) → q ≢ p → last ≡ Some q → (node_at (nodes_with nodes last p o i) q).next ≡ Some p
  with-next q other is = ap (λ (n : Node). n.next)
      (not-written (set_next nodes last (Some p)) p q (node_behind last o i) other)
      ∙ next-there nodes last (Some p) q last_in is

  pub with-next-else : (q : ℕ) → q ≢ p → last ≢ Some q → (node_at (nodes_with nodes last p o i) q).next
      ≡ (node_at nodes q).next
  with-next-else q other not = ap (λ (n : Node). n.next)
      (not-written (set_next nodes last (Some p)) p q (node_behind last o i) other
      ∙ next-else nodes last (Some p) q not)

  pub with-prev : (q : ℕ) → q ≢ p → (node_at (nodes_with nodes last p o i) q).prev ≡ (node_at nodes q).prev
  with-prev q other = ap (λ (n : Node). n.prev)
      (not-written (set_next nodes last (Some p)) p q (node_behind last o i) other)
      ∙ kept (λ n. n.prev) nodes (set_next nodes last (Some p))
      (next-kept (λ n. n.prev) (λ n v. refl) nodes last (Some p)) q

-- an order leaves a place
module _ (nodes : List Node) (p : ℕ) (prev next : Option ℕ) (prev_in : IsWithinNodes nodes prev)
    (next_in : IsWithinNodes nodes next)
    (within : p < length nodes) where
  abbrev between : List Node
  between = set_next nodes prev next

  abbrev around : List Node
  around = set_prev between next prev

  abbrev left : Node
  left = record (node_at around p) { order = None }

  pub without-long : length around ≡ length nodes
  without-long = length-prev between next prev ∙ length-next nodes prev next

  pub without-seen : Seen nodes (nodes_without nodes p prev next) p None
  without-seen = record {
    places = map-set (λ n. n.order) around p left
        ∙ ap (λ ps. slice_set ps p None)
        (prev-kept (λ n. n.order) (λ n v. refl) between next prev ∙ next-kept (λ n. n.order)
        (λ n v. refl) nodes prev next);
    long = length-set around p left ∙ without-long;
    within = within;
  }

  next-around : (q : ℕ) → q ≢ p → (node_at (nodes_without nodes p prev next) q).next ≡ (node_at between q).next
  next-around q other = ap (λ (n : Node). n.next) (not-written around p q left other)
      ∙ kept (λ n. n.next) between around (prev-kept (λ n. n.next) (λ n v. refl) between next prev) q

  pub without-next : (q : ℕ) → q ≢ p → prev ≡ Some q → (node_at (nodes_without nodes p prev next) q).next ≡ next
  without-next q other is = next-around q other ∙ next-there nodes prev next q prev_in is

  pub without-next-else : (q : ℕ) → q ≢ p → prev ≢ Some q
      → (node_at (nodes_without nodes p prev next) q).next ≡ (node_at nodes q).next
  without-next-else q other not = next-around q other ∙ ap (λ (n : Node). n.next) (next-else nodes prev next q not)

  next_in' : (m : Option ℕ) → IsWithinNodes nodes m → IsWithinNodes between m
  next_in' None h = h
  next_in' (Some q) h = let long = length-next nodes prev next in omega (arith, long, h)

  pub without-prev : (q : ℕ) → q ≢ p → next ≡ Some q → (node_at (nodes_without nodes p prev next) q).prev ≡ prev
  without-prev q other is = ap (λ (n : Node). n.prev) (not-written around p q left other)
      ∙ prev-there between next prev q
      (next_in' next next_in) is

  pub without-prev-else : (q : ℕ) → q ≢ p → next ≢ Some q
      → (node_at (nodes_without nodes p prev next) q).prev ≡ (node_at nodes q).prev
  without-prev-else q other not = ap (λ (n : Node). n.prev)
      (not-written around p q left other ∙ prev-else between next prev q not)
      ∙ kept (λ n. n.prev) nodes between (next-kept (λ n. n.prev) (λ n v. refl) nodes prev next) q

-- another order at a place
pub changed-seen : (nodes : List Node) (p : ℕ) (o : Order) → p < length nodes → Seen nodes (slice_set nodes p (record
    (node_at nodes p) { order = Some o })) p (Some o)
changed-seen nodes p o within = record {
  places = map-set (λ n. n.order) nodes p (record (node_at nodes p) { order = Some o });
  long = length-set nodes p (record (node_at nodes p) { order = Some o });
  within = within;
}

-- sums and counts of places
pub sum-seen : (f : Option Order → ℕ) (old new : List Node) (p : ℕ) (o : Option Order) → Seen old new p o →
    sum_by f (places_of new) + f (order_at old p) ≡ sum_by f (places_of old) + f o
sum-seen f old new p o seen =
    let long : length (places_of old) ≡ length old = length-map old (λ (n : Node). n.order) in
    let within = seen.within in
    ap (λ ps. sum_by f ps + f (order_at old p)) seen.places
    ∙ ap (λ x. sum_by f (slice_set (places_of old) p o) + f x) (sym (order-is old p))
    ∙ sum_by-set f (places_of old) p o None (omega (arith, long, within))

pub member-seen : (f : Option Order → ℕ) (old new : List Node) (p : ℕ) (o : Option Order) → Seen old new p o
    → f None ≡ 0 →
    f (order_at old p) ≤ sum_by f (places_of old)
member-seen f old new p o seen nothing =
    let long : length (places_of old) ≡ length old = length-map old (λ (n : Node). n.order) in
    let within = seen.within in
    let sums = sum_by-set f (places_of old) p None None (omega (arith, long, within)) in
    let same = ap f (order-is old p) in
    omega (arith, sums, same, nothing)

abbrev pub one : Option Order → ℕ
one None = 0
one (Some o) = 1

pub count-set : (ps : Places) (p : ℕ) (v : Option Order) → p < length ps → length (standing (slice_set ps p v)) + one
    (at ps p) ≡ length (standing ps) + one v
count-set [] p v within = absurd (omega (arith, within))
count-set (None ∷ ps) zero None within = refl
count-set (None ∷ ps) zero (Some o) within = omega arith
count-set (Some x ∷ ps) zero None within = omega arith
count-set (Some x ∷ ps) zero (Some o) within = refl
count-set (None ∷ ps) (suc p) v within = count-set ps p v (omega (arith, within))
count-set (Some x ∷ ps) (suc p) v within = let more = count-set ps p v (omega (arith, within)) in omega (arith, more)

pub count-seen : (old new : List Node) (p : ℕ) (o : Option Order) → Seen old new p o →
    length (standing (places_of new)) + one (order_at old p) ≡ length (standing (places_of old)) + one o
count-seen old new p o seen =
    let long : length (places_of old) ≡ length old = length-map old (λ (n : Node). n.order) in
    let within = seen.within in
    ap (λ ps. length (standing ps) + one (order_at old p)) seen.places
    ∙ ap (λ x. length (standing (slice_set (places_of old) p o)) + one x) (sym (order-is old p))
    ∙ count-set (places_of old) p o (omega (arith, long, within))

-- the nodes are as many as before
pub as-long : (old new : List Node) (p : ℕ) (o : Option Order) → places_of new ≡ slice_set (places_of old) p o
    → length new ≡ length old
as-long old new p o same = sym (length-map new (λ (n : Node). n.order)) ∙ ap (length {A = Option Order}) same
    ∙ length-set
    (places_of old) p o ∙ length-map old (λ (n : Node). n.order)
