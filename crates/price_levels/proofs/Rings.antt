-- Rings that lose a point or gain one: each point still leads to another, which leads back.
use Rattle.std.proofs.Common.{◌≡◌, ℕ, ◌<◌, ◌⊎◌, inl, inr, Option, Some, None, refl, ap, sym, subst, ◌∙◌, arith}
use Rattle.std.specs.Prelude.{◌≢◌, option_map}
use Rattle.venue_model.specs.declared.orders.Order.{Order}
use Rattle.price_levels.specs.Keys.{key_of}
use Rattle.price_levels.specs.Arena.{Point, At, End, AreRings, key_at}
use Rattle.price_levels.proofs.KeyLemmas.{decide_point}

-- A point m between a and b is cut out, so that it leads to itself. Or the other way round: with the new ones as the
-- old ones.
module _ (next prev next' prev' : Point → Point) (m a b : Point) where
  pub cut : ((x : Point) → prev (next x) ≡ x) → prev m ≡ a → next m ≡ b → next' m ≡ m → next' a ≡ b →
      ((x : Point) → x ≢ m → x ≢ a → next' x ≡ next x) → prev' m ≡ m → prev' b ≡ a →
      ((x : Point) → x ≢ m → x ≢ b → prev' x ≡ prev x) → (x : Point) → prev' (next' x) ≡ x
  cut there from to n_m n_a n_x p_m p_b p_x x = elim (decide_point x m) [
    | inl is_m ↦ ap (λ y. prev' (next' y)) is_m ∙ ap prev' n_m ∙ p_m ∙ sym is_m
    | inr not_m ↦ elim (decide_point x a) [
      | inl is_a ↦ ap (λ y. prev' (next' y)) is_a ∙ ap prev' n_a ∙ p_b ∙ sym is_a
      | inr not_a ↦
          let still : (next x ≡ m) → ⊥ = λ h. not_a (sym (there x) ∙ ap prev h ∙ from) in
          let not_b : (next x ≡ b) → ⊥ = λ h. not_m (sym (there x) ∙ ap prev (h ∙ sym to) ∙ there m) in
          ap prev' (n_x x not_m not_a) ∙ p_x (next x) still not_b ∙ there x
    ]
  ]

  pub join : ((x : Point) → prev (next x) ≡ x) → prev m ≡ m → prev b ≡ a → next' m ≡ b → next' a ≡ m →
      ((x : Point) → x ≢ m → x ≢ a → next' x ≡ next x) → prev' m ≡ a → prev' b ≡ m →
      ((x : Point) → x ≢ m → x ≢ b → prev' x ≡ prev x) → (x : Point) → prev' (next' x) ≡ x
  join there alone from n_m n_a n_x p_m p_b p_x x = elim (decide_point x m) [
    | inl is_m ↦ ap (λ y. prev' (next' y)) is_m ∙ ap prev' n_m ∙ p_b ∙ sym is_m
    | inr not_m ↦ elim (decide_point x a) [
      | inl is_a ↦ ap (λ y. prev' (next' y)) is_a ∙ ap prev' n_a ∙ p_m ∙ sym is_a
      | inr not_a ↦
          let still : (next x ≡ m) → ⊥ = λ h. not_m (sym (there x) ∙ ap prev h ∙ alone) in
          let not_b : (next x ≡ b) → ⊥ = λ h. not_a (sym (there x) ∙ ap prev h ∙ from) in
          ap prev' (n_x x not_m not_a) ∙ p_x (next x) still not_b ∙ there x
    ]
  ]

-- the new pointers of a ring that has lost or gained a point, in one direction
pub record Moves (old new : Point → Point) (m a to_m to_a : Point) : Type 0 where
  pub at_m : new m ≡ to_m
  pub at_a : new a ≡ to_a
  pub others : (x : Point) → x ≢ m → x ≢ a → new x ≡ old x

-- the orders with the one at a place changed, or gone, or come
pub record Sets (old new : ℕ → Option Order) (p : ℕ) (o : Option Order) : Type 0 where
  pub here : new p ≡ o
  pub others : (q : ℕ) → q ≢ p → new q ≡ old q

pub not-here : (order : ℕ → Option Order) (p q : ℕ) (o : Order) → order p ≡ None → order q ≡ Some o → q ≢ p
not-here order p q o gone here = λ is. let e : Some o ≡ None = sym here ∙ ap order is ∙ gone in cc

pub at-apart : (p q : ℕ) → At p ≡ At q → p ≡ q
at-apart p q e = cc

pub some-same : {X : Type 0} (a b : X) → Some a ≡ Some b → a ≡ b
some-same a b e = cc

module _ (order : ℕ → Option Order) (next prev : Point → Point) (rings : AreRings order next prev) where
  -- an order's place doesn't lead to itself
  pub leads-on : (p : ℕ) (o : Order) → order p ≡ Some o → next (At p) ≢ At p
  leads-on p o here = λ h. let lt : o.stamp < o.stamp = rings.later p p o o h here here in omega (arith, lt)

  pub leads-back : (p : ℕ) (o : Order) → order p ≡ Some o → prev (At p) ≢ At p
  leads-back p o here = λ h. leads-on p o here (sym (ap next h) ∙ rings.back (At p))

  pub key-before : (x : Point) → key_at order (prev x) ≡ key_at order x
  key-before x = sym (rings.key (prev x)) ∙ ap (key_at order) (rings.back x)

  -- an order leaves
  module _ (order' : ℕ → Option Order) (next' prev' : Point → Point) (p : ℕ) (o : Order) (here : order p ≡ Some o)
      (orders : Sets order order' p None)
      (nexts : Moves next next' (At p) (prev (At p)) (At p) (next (At p)))
      (prevs : Moves prev prev' (At p) (next (At p)) (At p) (prev (At p))) where
    stood : (q : ℕ) (x : Order) → order' q ≡ Some x → order q ≡ Some x
    stood q x at_q = sym (orders.others q (not-here order' p q x orders.here at_q)) ∙ at_q

    key-other : (x : Point) → x ≢ At p → key_at order' x ≡ key_at order x
    key-other (At q) other = ap (option_map key_of) (orders.others q (λ is. other (ap At is)))
    key-other (End k) other = refl

    key-left : (x : Point) → key_at order' (next' x) ≡ key_at order' x
    key-left x = elim (decide_point x (At p)) [
      | inl is_p ↦ ap (λ y. key_at order' (next' y)) is_p ∙ ap (key_at order') nexts.at_m
          ∙ sym (ap (key_at order') is_p)
      | inr not_p ↦ elim (decide_point x (prev (At p))) [
        | inl is_a ↦
            ap (λ y. key_at order' (next' y)) is_a ∙ ap (key_at order') nexts.at_a
            ∙ key-other (next (At p)) (leads-on p o here)
            ∙ rings.key (At p) ∙ sym (key-before (At p)) ∙ sym (key-other (prev (At p)) (leads-back p o here)) ∙ sym (ap
            (key_at order') is_a)
        | inr not_a ↦
            let still : (next x ≡ At p) → ⊥ = λ h. not_a (sym (rings.there x) ∙ ap prev h) in
            ap (key_at order') (nexts.others x not_p not_a) ∙ key-other (next x) still ∙ rings.key x
            ∙ sym (key-other x not_p)
      ]
    ]

    later-left : (q r : ℕ) (x y : Order) → next' (At q) ≡ At r → order' q ≡ Some x → order' r ≡ Some y
        → x.stamp < y.stamp
    later-left q r x y leads at_q at_r =
        let not_p : (At q ≡ At p) → ⊥ = λ h. not-here order' p q x orders.here at_q (at-apart q p h) in
        elim (decide_point (At q) (prev (At p))) [
          | inl is_a ↦
              let first : x.stamp < o.stamp = rings.later q p x o (ap next is_a ∙ rings.back (At p)) (stood q x at_q)
              here in
              let second : o.stamp < y.stamp = rings.later p r o y (sym nexts.at_a ∙ sym (ap next' is_a) ∙ leads) here
              (stood r y at_r) in
              omega (arith, first, second)
          | inr not_a ↦ rings.later q r x y (sym (nexts.others (At q) not_p not_a) ∙ leads) (stood q x at_q)
              (stood r y at_r)
        ]

    pub rings-left : AreRings order' next' prev'
    rings-left = record {
      there = cut next prev next' prev' (At p) (prev (At p)) (next (At p)) rings.there refl refl
          nexts.at_m nexts.at_a nexts.others prevs.at_m prevs.at_a prevs.others;
      back = cut prev next prev' next' (At p) (next (At p)) (prev (At p)) rings.back refl refl
          prevs.at_m prevs.at_a prevs.others nexts.at_m nexts.at_a nexts.others;
      key = key-left;
      later = later-left;
      apart = λ q r x y at_q at_r same stamp. rings.apart q r x y (stood q x at_q) (stood r y at_r) same stamp;
    }

  -- an order comes to a free place, behind all others of its level
  module _ (order' : ℕ → Option Order) (next' prev' : Point → Point) (p : ℕ) (o : Order) (free : order p ≡ None)
      (alone : next (At p) ≡ At p) (alone_back : prev (At p) ≡ At p)
      (last : (q : ℕ) (x : Order) → order q ≡ Some x → key_of x ≡ key_of o → x.stamp < o.stamp)
      (orders : Sets order order' p (Some o))
      (nexts : Moves next next' (At p) (prev (End (key_of o))) (End (key_of o)) (At p))
      (prevs : Moves prev prev' (At p) (End (key_of o)) (prev (End (key_of o))) (At p)) where
    key-others : (x : Point) → x ≢ At p → key_at order' x ≡ key_at order x
    key-others (At q) other = ap (option_map key_of) (orders.others q (λ is. other (ap At is)))
    key-others (End k) other = refl

    -- the last point of the level before
    last-is : prev (End (key_of o)) ≢ At p
    last-is = λ h. let e : End (key_of o) ≡ At p = sym (rings.back (End (key_of o))) ∙ ap next h ∙ alone in cc

    key-come : (x : Point) → key_at order' (next' x) ≡ key_at order' x
    key-come x = elim (decide_point x (At p)) [
      | inl is_p ↦
          ap (λ y. key_at order' (next' y)) is_p ∙ ap (key_at order') nexts.at_m
          ∙ sym (ap (option_map key_of) orders.here)
          ∙ sym (ap (key_at order') is_p)
      | inr not_p ↦ elim (decide_point x (prev (End (key_of o)))) [
        | inl is_a ↦
            ap (λ y. key_at order' (next' y)) is_a ∙ ap (key_at order') nexts.at_a ∙ ap (option_map key_of) orders.here
            ∙ sym (key-before (End (key_of o))) ∙ sym (key-others (prev (End (key_of o))) last-is)
            ∙ sym (ap (key_at order') is_a)
        | inr not_a ↦
            let still : (next x ≡ At p) → ⊥ = λ h. not_p (sym (rings.there x) ∙ ap prev h ∙ alone_back) in
            ap (key_at order') (nexts.others x not_p not_a) ∙ key-others (next x) still ∙ rings.key x
            ∙ sym (key-others x not_p)
      ]
    ]

    -- the order at a place now: the new one, or one that stood there
    come : (q : ℕ) (x : Order) → order' q ≡ Some x → ((q ≡ p) × (x ≡ o)) ⊎ ((q ≢ p) × (order q ≡ Some x))
    come q x at_q = elim (decide_point (At q) (At p)) [
      | inl is ↦ inl (at-apart q p is, some-same x o (sym at_q ∙ ap order' (at-apart q p is) ∙ orders.here))
      | inr not ↦ let other : q ≢ p = λ h. not (ap At h) in inr (other, sym (orders.others q other) ∙ at_q)
    ]

    later-come : (q r : ℕ) (x y : Order) → next' (At q) ≡ At r → order' q ≡ Some x → order' r ≡ Some y
        → x.stamp < y.stamp
    later-come q r x y leads at_q at_r = elim (come q x at_q) [
      | inl new ↦ let e : End (key_of o) ≡ At r = sym nexts.at_m ∙ sym (ap (λ n. next' (At n)) new.0) ∙ leads in cc
      | inr old ↦ let not_p : (At q ≡ At p) → ⊥ = λ h. old.0 (at-apart q p h) in
          elim (decide_point (At q) (prev (End (key_of o)))) [
            | inl is_a ↦
                let r_is : r ≡ p = at-apart r p (sym leads ∙ ap next' is_a ∙ nexts.at_a) in
                let y_is : y ≡ o = some-same y o (sym at_r ∙ ap order' r_is ∙ orders.here) in
                let key : key_of x ≡ key_of o = some-same (key_of x) (key_of o) (sym (ap (option_map key_of) old.1) ∙ ap
                (key_at order) is_a ∙ key-before (End (key_of o))) in
                subst (λ (z : Order). x.stamp < z.stamp) (sym y_is) (last q x old.1 key)
            | inr not_a ↦ let led : next (At q) ≡ At r = sym (nexts.others (At q) not_p not_a) ∙ leads in
                elim (come r y at_r) [
                  | inl new ↦ absurd (not_p (sym (rings.there (At q)) ∙ ap prev (led ∙ ap At new.0) ∙ alone_back))
                  | inr more ↦ rings.later q r x y led old.1 more.1
                ]
          ]
    ]

    apart-come : (q r : ℕ) (x y : Order) → order' q ≡ Some x → order' r ≡ Some y → key_of y ≡ key_of x
        → y.stamp ≡ x.stamp → q ≡ r
    apart-come q r x y at_q at_r same stamp = elim (come q x at_q) [
      | inl new ↦ elim (come r y at_r) [
        | inl more ↦ new.0 ∙ sym more.0
        | inr old ↦ let lt : y.stamp < o.stamp = last r y old.1 (same ∙ ap key_of new.1) in
            let e : x.stamp ≡ o.stamp = ap (λ
            (z : Order). z.stamp) new.1 in absurd (omega (arith, lt, e, stamp))
      ]
      | inr old ↦ elim (come r y at_r) [
        | inl new ↦ let lt : x.stamp < o.stamp = last q x old.1 (sym same ∙ ap key_of new.1) in
            let e : y.stamp ≡ o.stamp = ap (λ
            (z : Order). z.stamp) new.1 in absurd (omega (arith, lt, e, stamp))
        | inr more ↦ rings.apart q r x y old.1 more.1 same stamp
      ]
    ]

    pub rings-come : AreRings order' next' prev'
    rings-come = record {
      there = join next prev next' prev' (At p) (prev (End (key_of o))) (End (key_of o)) rings.there alone_back refl
          nexts.at_m nexts.at_a nexts.others prevs.at_m prevs.at_a prevs.others;
      back = join prev next prev' next' (At p) (End (key_of o)) (prev (End (key_of o))) rings.back alone
          (rings.back (End (key_of o)))
          prevs.at_m prevs.at_a prevs.others nexts.at_m nexts.at_a nexts.others;
      key = key-come;
      later = later-come;
      apart = apart-come;
    }
