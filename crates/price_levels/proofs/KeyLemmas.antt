-- Keys and points: whether two are one, and the order of the keys.
use Rattle.std.proofs.Common.{◌≡◌, ℕ, ◌⊎◌, inl, inr, Bool, true, false, ◌&&◌, List, refl, ap, sym, ◌∙◌, arith}
use Rattle.std.proofs.Common.{true≢false}
use Rattle.std.specs.Prelude.{◌≢◌, nat_eq, if◌then◌else◌}
use Rattle.std.specs.Str.{bytes_eq}
use Rattle.std.specs.Ordering.{nat_cmp, is_lt, is_eq, ordering_reverse}
use Rattle.std.specs.declared.cmp.Ordering.{Ordering}
use Rattle.std.specs.declared.cmp.Ordering.TheVariants.{Less, Equal, Greater}
use Rattle.std.specs.Cmp.Lexicographic.{slice_cmp}
use Rattle.std.proofs.lemmas.Slice.Eq.{bytes_eq-Decides}
use Rattle.std.proofs.lemmas.Bool.Decides.{nat_tests}
use Rattle.std.proofs.lemmas.Cmp.{nat_list_cmp_total, tied_itself}
use Rattle.std.proofs.lemmas.Map.Text.{is_eq-slice_cmp}
use Rattle.std.proofs.Math.Decide.{ℕ_discrete}
use Rattle.venue_model.specs.declared.orders.Side.{Side}
use Rattle.venue_model.specs.declared.orders.Side.TheVariants.{Buy, Sell}
use Rattle.venue_model.specs.Orders.{same_side, is_better}
use Rattle.venue_model.specs.SideLaws.{one_side, side_itself}
use Rattle.price_levels.specs.declared.keys.Key.{Key}
use Rattle.price_levels.specs.Keys.{same_key, side_before, symbol_before, key_before}
use Rattle.price_levels.specs.Arena.{Point, At, End}

pub both : (a b : Bool) → (a && b) ≡ true → (a ≡ true) × (b ≡ true)
both true b e = (refl, e)
both false b e = cc

abbrev key : List ℕ → Side → ℕ → Key
key symbol side price = record { symbol = symbol; side = side; price = price }

key-of : (s t : List ℕ) (d e : Side) (p q : ℕ) → s ≡ t → d ≡ e → p ≡ q → key s d p ≡ key t e q
key-of s t d e p q symbol side price = ap (λ x. key x d p) symbol ∙ ap (λ x. key t x p) side ∙ ap (λ x. key t e x) price

pub key-made : (a b : Key) → a.symbol ≡ b.symbol → a.side ≡ b.side → a.price ≡ b.price → a ≡ b
key-made a b symbol side price = key-of a.symbol b.symbol a.side b.side a.price b.price symbol side price

pub key-is : (a b : Key) → same_key a b ≡ true → a ≡ b
key-is a b e =
    let parts = both (bytes_eq a.symbol b.symbol) (same_side a.side b.side && nat_eq a.price b.price) e in
    let more = both (same_side a.side b.side) (nat_eq a.price b.price) parts.1 in
    let price : a.price ≡ b.price = grind (arith, nat_tests, more.1) in
    key-made a b ((bytes_eq-Decides a.symbol b.symbol).0 parts.0) (one_side a.side b.side more.0) price

pub key-itself : (a : Key) → same_key a a ≡ true
key-itself a =
    let price : nat_eq a.price a.price ≡ true = grind (arith, nat_tests) in
    ap (λ t. t && (same_side a.side a.side && nat_eq a.price a.price)) ((bytes_eq-Decides a.symbol a.symbol).1 refl)
    ∙ ap (λ t. t && nat_eq a.price a.price) (side_itself a.side a.side refl) ∙ price

pub same_if : (a b : Key) → a ≡ b → same_key a b ≡ true
same_if a b is = ap (λ k. same_key a k) (sym is) ∙ key-itself a

pub decide_key : (a b : Key) → (a ≡ b) ⊎ (a ≢ b)
decide_key a b = elim (same_key a b) as (λ t. same_key a b ≡ t → (a ≡ b) ⊎ (a ≢ b)) [
  | true ↦ λ h. inl (key-is a b h)
  | false ↦ λ h. inr (λ is. let t : same_key a b ≡ true = same_if a b is in let f : true ≡ false = sym t ∙ h in cc)
] refl

pub decide_point : (x y : Point) → (x ≡ y) ⊎ (x ≢ y)
decide_point (At p) (At q) = elim (ℕ_discrete p q) [
  | yes h ↦ inl (ap At h)
  | no h ↦
      inr (λ is. h (let e : p ≡ q = cc in e))
]
decide_point (End k) (End j) = elim (decide_key k j) [
  | inl h ↦ inl (ap End h)
  | inr h ↦
      inr (λ is. h (let e : k ≡ j = cc in e))
]
decide_point (At p) (End j) = inr (λ is. cc)
decide_point (End k) (At q) = inr (λ is. cc)

-- the order of the symbols
is-less : (o : Ordering) → is_lt o ≡ true → o ≡ Less
is-less Less e = refl
is-less Equal e = cc
is-less Greater e = cc

pub symbol-trans : (a b c : List ℕ) → symbol_before a b ≡ true → symbol_before b c ≡ true → symbol_before a c ≡ true
symbol-trans a b c h g = ap is_lt
    (nat_list_cmp_total.trans a b c (is-less (slice_cmp nat_cmp a b) h) (is-less (slice_cmp nat_cmp b c) g))

symbol-itself : (a : List ℕ) → symbol_before a a ≡ false
symbol-itself a = ap is_lt (tied_itself nat_list_cmp_total a)

pub symbol-apart : (a b : List ℕ) → symbol_before a b ≡ true → a ≢ b
symbol-apart a b h = λ is. let f : symbol_before a b ≡ false = ap (λ s. symbol_before a s) (sym is) ∙ symbol-itself a
    in let e : true ≡ false = sym h ∙ f in cc

by_ordering : (a b : List ℕ) (o : Ordering) → slice_cmp nat_cmp a b ≡ o →
    (symbol_before a b ≡ true) ⊎ ((a ≡ b) ⊎ (symbol_before b a ≡ true))
by_ordering a b Less e = inl (ap is_lt e)
by_ordering a b Equal e = inr (inl ((bytes_eq-Decides a b).0 (sym (is_eq-slice_cmp a b) ∙ ap is_eq e)))
by_ordering a b Greater e = inr (inr (ap is_lt (nat_list_cmp_total.antisymm b a ∙ ap ordering_reverse e)))

pub symbol-cases : (a b : List ℕ) → (symbol_before a b ≡ true) ⊎ ((a ≡ b) ⊎ (symbol_before b a ≡ true))
symbol-cases a b = by_ordering a b (slice_cmp nat_cmp a b) refl

-- the order of the prices of a side
better-trans : (side : Side) (p q r : ℕ) → is_better side p q ≡ true → is_better side q r ≡ true
    → is_better side p r ≡ true
better-trans Buy p q r h g = grind (arith, nat_tests)
better-trans Sell p q r h g = grind (arith, nat_tests)

better-itself : (side : Side) (p : ℕ) → is_better side p p ≡ false
better-itself Buy p = grind (arith, nat_tests)
better-itself Sell p = grind (arith, nat_tests)

pub better-not : (side : Side) (p q : ℕ) → is_better side p q ≡ true → is_better side q p ≡ false
better-not Buy p q h = grind (arith, nat_tests)
better-not Sell p q h = grind (arith, nat_tests)

better-cases : (side : Side) (p q : ℕ) → is_better side p q ≡ false → (p ≡ q) ⊎ (is_better side q p ≡ true)
better-cases Buy p q h = elim (ℕ_discrete p q) [ yes e ↦ inl e | no n ↦ inr (grind (arith, nat_tests, n)) ]
better-cases Sell p q h = elim (ℕ_discrete p q) [ yes e ↦ inl e | no n ↦ inr (grind (arith, nat_tests, n)) ]

-- what it means that one key is before another
abbrev pub OfSymbol : Key → Key → Type 0
OfSymbol a b = ((a.side ≡ Buy) × (b.side ≡ Sell)) ⊎ ((a.side ≡ b.side) × (is_better a.side a.price b.price ≡ true))

abbrev pub Before : Key → Key → Type 0
Before a b = (symbol_before a.symbol b.symbol ≡ true) ⊎ ((a.symbol ≡ b.symbol) × OfSymbol a b)

sides-before : (d e : Side) (t : Bool) → side_before d e t ≡ true → ((d ≡ Buy) × (e ≡ Sell)) ⊎ ((d ≡ e) × (t ≡ true))
sides-before Buy Buy t h = inr (refl, h)
sides-before Sell Sell t h = inr (refl, h)
sides-before Buy Sell t h = inl (refl, refl)
sides-before Sell Buy t h = absurd (true≢false (sym h))

pub sides-same : (d : Side) (t : Bool) → side_before d d t ≡ t
sides-same Buy t = refl
sides-same Sell t = refl

pub before-means : (a b : Key) → key_before a b ≡ true → Before a b
before-means a b h = elim (bytes_eq a.symbol b.symbol) as (λ t. bytes_eq a.symbol b.symbol ≡ t →
    (if t then side_before a.side b.side (is_better a.side a.price b.price) else symbol_before a.symbol b.symbol) ≡ true
    → Before a b) [
      | true ↦ λ same g. inr (
        (bytes_eq-Decides a.symbol b.symbol).0 same,
        sides-before a.side b.side (is_better a.side a.price b.price) g,
      )
      | false ↦ λ other g. inl g
    ] refl h

pub same-bytes : (a b : List ℕ) → a ≡ b → bytes_eq a b ≡ true
same-bytes a b is = (bytes_eq-Decides a b).1 is

pub other-bytes : (a b : List ℕ) → a ≢ b → bytes_eq a b ≡ false
other-bytes a b other = elim (bytes_eq a b) as (λ t. bytes_eq a b ≡ t → t ≡ false) [
  | true ↦ λ h. absurd (other ((bytes_eq-Decides a b).0 h))
  | false ↦ λ h. refl
] refl

pub before-is : (a b : Key) → Before a b → key_before a b ≡ true
before-is a b (inl h) =
    ap (λ t. if t then side_before a.side b.side (is_better a.side a.price b.price) else symbol_before a.symbol
    b.symbol)
    (other-bytes a.symbol b.symbol (symbol-apart a.symbol b.symbol h)) ∙ h
before-is a b (inr (symbol, inl (buy, sell))) =
    ap (λ t. if t then side_before a.side b.side (is_better a.side a.price b.price) else symbol_before a.symbol
    b.symbol)
    (same-bytes a.symbol b.symbol symbol)
    ∙ ap (λ d. side_before d b.side (is_better a.side a.price b.price)) buy
    ∙ ap (λ e. side_before Buy e (is_better a.side a.price b.price)) sell
before-is a b (inr (symbol, inr (side, better))) =
    ap (λ t. if t then side_before a.side b.side (is_better a.side a.price b.price) else symbol_before a.symbol
    b.symbol)
    (same-bytes a.symbol b.symbol symbol)
    ∙ ap (λ e. side_before a.side e (is_better a.side a.price b.price)) (sym side) ∙ sides-same a.side
    (is_better a.side a.price b.price) ∙ better

of-symbol-trans : (a b c : Key) → OfSymbol a b → OfSymbol b c → OfSymbol a c
of-symbol-trans a b c (inl (buy, sell)) (inl (buys, sells)) = inl (buy, sells)
of-symbol-trans a b c (inl (buy, sell)) (inr (side, better)) = inl (buy, sym side ∙ sell)
of-symbol-trans a b c (inr (side, better)) (inl (buy, sell)) = inl (side ∙ buy, sell)
of-symbol-trans a b c (inr (side, better)) (inr (sides, more)) =
    inr (
      side ∙ sides,
      better-trans a.side a.price b.price c.price better
          (ap (λ d. is_better d b.price c.price) side ∙ more),
    )

before-trans : (a b c : Key) → Before a b → Before b c → Before a c
before-trans a b c (inl h) (inl g) = inl (symbol-trans a.symbol b.symbol c.symbol h g)
before-trans a b c (inl h) (inr (same, of)) = inl (ap (λ s. symbol_before a.symbol s) (sym same) ∙ h)
before-trans a b c (inr (same, of)) (inl g) = inl (ap (λ s. symbol_before s c.symbol) same ∙ g)
before-trans a b c (inr (same, of)) (inr (also, more)) = inr (same ∙ also, of-symbol-trans a b c of more)

pub key-trans : (a b c : Key) → key_before a b ≡ true → key_before b c ≡ true → key_before a c ≡ true
key-trans a b c h g = before-is a c (before-trans a b c (before-means a b h) (before-means b c g))

key-not-itself : (a : Key) → Before a a → ⊥
key-not-itself a (inl h) = symbol-apart a.symbol a.symbol h refl
key-not-itself a (inr (same, inl (buy, sell))) = let e : Buy ≡ Sell = sym buy ∙ sell in
    absurd (true≢false (ap (same_side Buy) e))
key-not-itself a (inr (same, inr (side, better))) = absurd (true≢false (sym better ∙ better-itself a.side a.price))

pub key-apart : (a b : Key) → key_before a b ≡ true → a ≢ b
key-apart a b h = λ is. key-not-itself a (before-means a a (ap (key_before a) is ∙ h))

pub not-same : (a b : Key) → a ≢ b → same_key a b ≡ false
not-same a b other = elim (same_key a b) as (λ t. same_key a b ≡ t → t ≡ false) [
  | true ↦ λ h. absurd (other (key-is a b h))
  | false ↦ λ h. refl
] refl

sides-cases : (d e : Side) → (d ≡ e) ⊎ (((d ≡ Buy) × (e ≡ Sell)) ⊎ ((e ≡ Buy) × (d ≡ Sell)))
sides-cases Buy Buy = inl refl
sides-cases Sell Sell = inl refl
sides-cases Buy Sell = inr (inl (refl, refl))
sides-cases Sell Buy = inr (inr (refl, refl))

-- of two keys that differ, one stands before the other
pub key-other-way : (a b : Key) → key_before a b ≡ false → a ≢ b → key_before b a ≡ true
key-other-way a b not other =
    let never : Before a b → Before b a = λ h. absurd (true≢false (sym (before-is a b h) ∙ not)) in
    before-is b a (elim (symbol-cases a.symbol b.symbol) [
      | inl before ↦ never (inl before)
      | inr (inr behind) ↦ inl behind
      | inr (inl same) ↦ elim (sides-cases a.side b.side) [
        | inr (inl way) ↦ never (inr (same, inl way))
        | inr (inr way) ↦ inr (sym same, inl way)
        | inl side ↦ elim (is_better a.side a.price b.price) as (λ t. is_better a.side a.price b.price ≡ t → Before b a) [
          | true ↦ λ better. never (inr (same, inr (side, better)))
          | false ↦ λ worse. elim (better-cases a.side a.price b.price worse) [
            | inl price ↦ absurd (other (key-made a b same side price))
            | inr better ↦ inr (sym same, inr (sym side, ap (λ d. is_better d b.price a.price) (sym side) ∙ better))
          ]
        ] refl
      ]
    ])
