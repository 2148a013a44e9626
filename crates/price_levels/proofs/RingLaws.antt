-- What the rings mean: the first order of a level came before all others of it, and behind each stands the next that
-- came.
use Rattle.std.proofs.Common.{◌≡◌, ℕ, zero, suc, ◌<◌, ◌≤◌, ◌⊎◌, inl, inr, Option, Some, None, refl, ap, sym, ◌∙◌, arith}
use Rattle.std.specs.Prelude.{option_map}
use Rattle.std.proofs.lemmas.Bool.{cases_lt}
use Rattle.std.proofs.Math.Decide.{ℕ_discrete}
use Rattle.venue_model.specs.declared.orders.Order.{Order}
use Rattle.price_levels.specs.declared.keys.Key.{Key}
use Rattle.price_levels.specs.Keys.{key_of}
use Rattle.price_levels.specs.Arena.{Point, At, End, AreRings, key_at}
use Rattle.price_levels.proofs.Rings.{key-before, some-same, at-apart}

-- an order of this key stands here
pub record Stands (orders : ℕ → Option Order) (p : ℕ) (k : Key) : Type 0 where
  pub order : Order
  pub is : orders p ≡ Some order
  pub key : key_of order ≡ k

pub stands : (orders : ℕ → Option Order) (p : ℕ) (k : Key) → option_map key_of (orders p) ≡ Some k → Stands orders p k
stands orders p k h = elim (orders p) as (λ x. orders p ≡ x → option_map key_of x ≡ Some k → Stands orders p k) [
  | None ↦ λ is g. absurd (let e : None ≡ Some k = g in cc)
  | Some o ↦ λ is g. record { order = o; is = is; key = some-same (key_of o) k g }
] refl h

-- the first order of a level, which came no later than this one
pub record FirstOf (orders : ℕ → Option Order) (next : Point → Point) (k : Key) (stamp : ℕ) : Type 0 where
  pub place : ℕ
  pub first : Order
  pub leads : next (End k) ≡ At place
  pub is : orders place ≡ Some first
  pub key : key_of first ≡ k
  pub least : first.stamp ≤ stamp

-- the next order behind one, which came no later than this one
pub record NextOf (orders : ℕ → Option Order) (next : Point → Point) (p : ℕ) (k : Key) (stamp : ℕ) : Type 0 where
  pub place : ℕ
  pub order : Order
  pub leads : next (At p) ≡ At place
  pub is : orders place ≡ Some order
  pub key : key_of order ≡ k
  pub least : order.stamp ≤ stamp

three : (m n : ℕ) → (m < n) ⊎ ((m ≡ n) ⊎ (n < m))
three m n = elim (ℕ_discrete m n) [
  | yes e ↦ inr (inl e)
  | no h ↦ elim (cases_lt m n) [
    | inl lt ↦ inl lt
    | inr le ↦ inr (inr (omega
        (arith, h, le)))
  ]
]

module _ (orders : ℕ → Option Order) (next prev : Point → Point) (rings : AreRings orders next prev) where
  -- the key of the point before an order
  key-of-prev : (p : ℕ) (o : Order) (x : Point) → orders p ≡ Some o → prev (At p) ≡ x
      → key_at orders x ≡ Some (key_of o)
  key-of-prev p o x here is = ap (key_at orders) (sym is) ∙ key-before orders next prev rings (At p)
      ∙ ap (option_map key_of) here

  leads-here : (p : ℕ) (x : Point) → prev (At p) ≡ x → next x ≡ At p
  leads-here p x is = ap next (sym is) ∙ rings.back (At p)

  -- what holds of the orders with an earlier stamp
  abbrev FirstBelow : ℕ → Type 0
  FirstBelow n = (q : ℕ) (y : Order) → y.stamp < n → orders q ≡ Some y → FirstOf orders next (key_of y) y.stamp

  by-prev : (n p : ℕ) (o : Order) (x : Point) → FirstBelow n → o.stamp < suc n → orders p ≡ Some o → prev (At p) ≡ x →
      FirstOf orders next (key_of o) o.stamp
  by-prev n p o (End k) below lt here is =
      let key : k ≡ key_of o = some-same k (key_of o) (key-of-prev p o (End k) here is) in
      record {
        place = p;
        first = o;
        leads = ap (λ j. next (End j)) (sym key) ∙ leads-here p (End k) is;
        is = here;
        key = refl;
        least = omega arith;
      }
  by-prev n p o (At q) below lt here is =
      let before = stands orders q (key_of o) (key-of-prev p o (At q) here is) in
      let earlier : before.order.stamp < o.stamp = rings.later q p before.order o (leads-here p (At q) is) before.is
      here in
      let first = below q before.order (omega (arith, earlier, lt)) before.is in
      let least = first.least in
      record {
        place = first.place;
        first = first.first;
        leads = ap (λ j. next (End j)) (sym before.key) ∙ first.leads;
        is = first.is;
        key = first.key ∙ before.key;
        least = omega (arith, least, earlier);
      }

  first-of : (n : ℕ) → FirstBelow n
  first-of zero p o lt here = absurd (omega (arith, lt))
  first-of (suc n) p o lt here = by-prev n p o (prev (At p)) (first-of n) lt here refl

  pub first : (p : ℕ) (o : Order) → orders p ≡ Some o → FirstOf orders next (key_of o) o.stamp
  first p o here = first-of (suc o.stamp) p o (omega arith) here

  -- an order of the level that came later has one behind it that came no later than that
  abbrev NextBelow : ℕ → Type 0
  NextBelow n = (p q : ℕ) (o x : Order) → x.stamp < n → orders p ≡ Some o → orders q ≡ Some x → key_of x ≡ key_of o
      → o.stamp < x.stamp →
      NextOf orders next p (key_of o) x.stamp

  next-by-prev : (n p q : ℕ) (o x : Order) (y : Point) → NextBelow n → x.stamp < suc n → orders p ≡ Some o
      → orders q ≡ Some x →
      key_of x ≡ key_of o → o.stamp < x.stamp → prev (At q) ≡ y → NextOf orders next p (key_of o) x.stamp
  next-by-prev n p q o x (End k) below lt at_p at_q key later is =
      let key_is : k ≡ key_of x = some-same k (key_of x) (key-of-prev q x (End k) at_q is) in
      let least = first p o at_p in
      let led : At least.place ≡ At q = sym least.leads ∙ ap (λ j. next (End j)) (sym (key_is ∙ key))
      ∙ leads-here q (End k) is in
      let same : x ≡ least.first = some-same x least.first
      (sym at_q ∙ ap orders (sym (at-apart least.place q led)) ∙ least.is) in
      let no_later = least.least in
      let stamp : x.stamp ≡ least.first.stamp = ap (λ (z : Order). z.stamp) same in
      absurd (omega (arith, later, no_later, stamp))
  next-by-prev n p q o x (At r) below lt at_p at_q key later is =
      let before = stands orders r (key_of x) (key-of-prev q x (At r) at_q is) in
      let led : next (At r) ≡ At q = leads-here q (At r) is in
      let earlier : before.order.stamp < x.stamp = rings.later r q before.order x led before.is at_q in
      elim (ℕ_discrete p r) [
        | yes same ↦ record {
          place = q;
          order = x;
          leads = ap (λ j. next (At j)) same ∙ led;
          is = at_q;
          key = key;
          least = omega arith;
        }
        | no other ↦ elim (three o.stamp before.order.stamp) [
          | inl less ↦
              let more = below p r o before.order (omega (arith, earlier, lt)) at_p before.is (before.key ∙ key) less in
              let least = more.least in
              record {
                place = more.place;
                order = more.order;
                leads = more.leads;
                is = more.is;
                key = more.key;
                least = omega
                    (arith, least, earlier);
              }
          | inr (inl same) ↦ absurd (other
              (rings.apart p r o before.order at_p before.is (before.key ∙ key) (sym same)))
          | inr (inr less) ↦
              let between = below r p before.order o (omega (arith, later, lt)) before.is at_p (sym (before.key ∙ key))
              less in
              let is_x : x ≡ between.order = some-same x between.order
              (sym at_q ∙ ap orders (at-apart q between.place (sym led
              ∙ between.leads)) ∙ between.is) in
              let stamp : x.stamp ≡ between.order.stamp = ap (λ (z : Order). z.stamp) is_x in
              let least = between.least in
              absurd (omega (arith, least, stamp, later))
        ]
      ]

  next-of : (n : ℕ) → NextBelow n
  next-of zero p q o x lt at_p at_q key later = absurd (omega (arith, lt))
  next-of (suc n) p q o x lt at_p at_q key later = next-by-prev n p q o x (prev (At q)) (next-of n) lt at_p at_q key
      later refl

  pub next-behind : (p q : ℕ) (o x : Order) → orders p ≡ Some o → orders q ≡ Some x → key_of x ≡ key_of o
      → o.stamp < x.stamp →
      NextOf orders next p (key_of o) x.stamp
  next-behind p q o x at_p at_q key later = next-of (suc x.stamp) p q o x (omega arith) at_p at_q key later
