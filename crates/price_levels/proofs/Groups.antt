-- The levels of a symbol and side stand together: what is behind one that is beyond them is beyond them too.
use Rattle.std.proofs.Common.{◌≡◌, ℕ, zero, suc, ◌<◌, ◌⊎◌, inl, inr, Bool, true, false, true≢false, ◌&&◌, ◌||◌, List}
use Rattle.std.proofs.Common.{[], ◌∷◌, drop, Option, Some, None, refl, ap, sym, ◌∙◌, arith}
use Rattle.std.specs.Prelude.{nat_eq, nat_lt, if◌then◌else◌}
use Rattle.std.specs.Str.{bytes_eq}
use Rattle.std.proofs.lemmas.Slice.Eq.{bytes_eq-Decides}
use Rattle.std.proofs.lemmas.Bool.Decides.{nat_tests}
use Rattle.venue_model.specs.declared.orders.Side.{Side}
use Rattle.venue_model.specs.declared.orders.Side.TheVariants.{Buy, Sell}
use Rattle.venue_model.specs.declared.orders.Order.{Order}
use Rattle.venue_model.specs.Orders.{opposite, same_side, meets, is_better, ahead}
use Rattle.venue_model.specs.SideLaws.{one_side, side_itself, met_side}
use Rattle.price_levels.specs.declared.keys.Key.{Key}
use Rattle.price_levels.specs.declared.keys.Level.{Level}
use Rattle.price_levels.specs.Places.{IsOf, Leads}
use Rattle.price_levels.specs.Keys.{key_of, key_before, before_side, symbol_before, key_crossed}
use Rattle.price_levels.specs.Arena.{of_side, head_of, first_in}
use Rattle.price_levels.proofs.KeyLemmas.{Before, before-means, before-is, both, symbol-apart, same-bytes, better-not}
use Rattle.price_levels.proofs.KeyLemmas.{key-made}
use Rattle.price_levels.proofs.SearchLemmas.{side-means, side-is-before, side-down}

pub false-if : (t : Bool) → (t ≡ true → ⊥) → t ≡ false
false-if true not = absurd (not refl)
false-if false not = refl

pub not-both : (t : Bool) → t ≡ true → t ≡ false → ⊥
not-both t holds fails = true≢false (sym holds ∙ fails)

buy-not-sell : (d : Side) → d ≡ Buy → d ≡ Sell → ⊥
buy-not-sell d buy sell = true≢false (ap (same_side Buy) (sym buy ∙ sell))

module _ (symbol : List ℕ) (side : Side) where
  pub of-means : (k : Key) → of_side symbol side k ≡ true → (k.symbol ≡ symbol) × (k.side ≡ side)
  of-means k h = let parts = both (bytes_eq k.symbol symbol) (same_side k.side side) h in
      ((bytes_eq-Decides k.symbol symbol).0 parts.0, one_side k.side side parts.1)

  pub of-is : (k : Key) → k.symbol ≡ symbol → k.side ≡ side → of_side symbol side k ≡ true
  of-is k symbols sides =
      ap (λ t. t && same_side k.side side) (same-bytes k.symbol symbol symbols)
      ∙ ap (λ d. same_side k.side d) (sym sides)
      ∙ side_itself k.side k.side refl

  -- a level of theirs isn't before them
  pub of-not-before : (k : Key) → of_side symbol side k ≡ true → before_side symbol side k ≡ true → ⊥
  of-not-before k of before = let is = of-means k of in elim (side-means symbol side k before) [
    | inl earlier ↦ symbol-apart k.symbol symbol earlier is.0
    | inr of_buy ↦ buy-not-sell k.side of_buy.1.0 (is.1 ∙ of_buy.1.1)
  ]

  -- nor is one behind one of theirs
  pub behind-not-before : (a b : Key) → of_side symbol side a ≡ true → key_before a b ≡ true
      → before_side symbol side b ≡ true → ⊥
  behind-not-before a b of before h = of-not-before a of (side-down symbol side a b before h)

  beyond-by : (a b : Key) → Before a b → before_side symbol side a ≡ false → of_side symbol side a ≡ false
      → (b.symbol ≡ symbol) ×
      (b.side ≡ side) → ⊥
  beyond-by a b (inl earlier) not_before not_of is =
      not-both (before_side symbol side a)
      (side-is-before symbol side a (inl (ap (λ s. symbol_before a.symbol s) (sym is.0)
      ∙ earlier))) not_before
  beyond-by a b (inr (same, inl (buy, sell))) not_before not_of is =
      not-both (before_side symbol side a) (side-is-before symbol side a (inr (same ∙ is.0, (buy, sym is.1 ∙ sell))))
      not_before
  beyond-by a b (inr (same, inr (sides, better))) not_before not_of is =
      not-both (of_side symbol side a) (of-is a (same ∙ is.0) (sides ∙ is.1)) not_of

  pub beyond : (a b : Key) → key_before a b ≡ true → before_side symbol side a ≡ false → of_side symbol side a ≡ false →
      of_side symbol side b ≡ false
  beyond a b before not_before not_of = false-if (of_side symbol side b) (λ h. beyond-by a b
      (before-means a b before) not_before not_of (of-means b h))

  -- the first of the levels that follow
  abbrev pub head_in : List Level → Option (ℕ × ℕ)
  head_in [] = None
  head_in (l ∷ ls) = if of_side symbol side l.key then Some (head_of l) else None

  pub first-head : (levels : List Level) (at : ℕ) → first_in symbol side levels at ≡ head_in (drop at levels)
  first-head [] zero = refl
  first-head [] (suc at) = refl
  first-head (l ∷ levels) zero = refl
  first-head (l ∷ levels) (suc at) = first-head levels at

-- what orders say of one another, by their levels
or-true : (a b : Bool) → a ≡ true → (a || b) ≡ true
or-true true b h = refl
or-true false b h = absurd (true≢false (sym h))

better-apart : (side : Side) (p q : ℕ) → is_better side p q ≡ true → nat_eq q p ≡ false
better-apart Buy p q h = grind (arith, nat_tests)
better-apart Sell p q h = grind (arith, nat_tests)

same-not-better : (side : Side) (p q : ℕ) → q ≡ p → is_better side p q ≡ false
same-not-better Buy p q h = grind (arith, nat_tests)
same-not-better Sell p q h = grind (arith, nat_tests)

by-price : (o x : Order) → x.side ≡ o.side → is_better o.side o.price x.price ≡ true → Leads o x
by-price o x side better = record {
  ahead_of = or-true (is_better o.side o.price x.price) (nat_eq o.price x.price && nat_lt o.stamp x.stamp) better;
  not_behind = ap (λ d. is_better d x.price o.price || (nat_eq x.price o.price && nat_lt x.stamp o.stamp)) side
      ∙ ap (λ t. t || (nat_eq x.price o.price && nat_lt x.stamp o.stamp)) (better-not o.side o.price x.price better)
      ∙ ap (λ t. t && nat_lt x.stamp o.stamp) (better-apart o.side o.price x.price better);
}

pub by-stamp : (o x : Order) → x.side ≡ o.side → x.price ≡ o.price → o.stamp < x.stamp → Leads o x
by-stamp o x side price earlier =
    let same : nat_eq o.price x.price ≡ true = grind (arith, nat_tests, price) in
    let before : nat_lt o.stamp x.stamp ≡ true = grind (arith, nat_tests, earlier) in
    let behind : nat_lt x.stamp o.stamp ≡ false = grind (arith, nat_tests, earlier) in
    let back : nat_eq x.price o.price ≡ true = grind (arith, nat_tests, price) in
    record {
      ahead_of = ap (λ t. t || (nat_eq o.price x.price && nat_lt o.stamp x.stamp))
          (same-not-better o.side o.price x.price price)
          ∙ ap (λ t. t && nat_lt o.stamp x.stamp) same ∙ before;
      not_behind = ap (λ d. is_better d x.price o.price || (nat_eq x.price o.price && nat_lt x.stamp o.stamp)) side
          ∙ ap (λ t. t || (nat_eq x.price o.price && nat_lt x.stamp o.stamp))
          (same-not-better o.side x.price o.price (sym price))
          ∙ ap (λ t. t && nat_lt x.stamp o.stamp) back ∙ behind;
    }

by-keys : (o x : Order) → IsOf o.symbol o.side x → Before (key_of o) (key_of x) → Leads o x
by-keys o x is (inl earlier) = absurd (symbol-apart o.symbol x.symbol earlier (sym is.symbol_is))
by-keys o x is (inr (same, inl (buy, sell))) = absurd (buy-not-sell o.side buy (sym is.side_is ∙ sell))
by-keys o x is (inr (same, inr (sides, better))) = by-price o x is.side_is better

pub key-ahead : (o x : Order) → IsOf o.symbol o.side x → key_before (key_of o) (key_of x) ≡ true → Leads o x
key-ahead o x is before = by-keys o x is (before-means (key_of o) (key_of x) before)

ahead-by : (better same earlier : Bool) → (better || (same && earlier)) ≡ true
    → (better ≡ true) ⊎ ((same ≡ true) × (earlier ≡ true))
ahead-by true same earlier h = inl refl
ahead-by false true earlier h = inr (refl, h)
ahead-by false false earlier h = absurd (true≢false (sym h))

-- an order of the symbol and side that it is ahead of: of a level behind, or later in its own
pub ahead-means : (o x : Order) → IsOf o.symbol o.side x → ahead o x ≡ true
    → (key_before (key_of o) (key_of x) ≡ true) ⊎
    ((key_of x ≡ key_of o) × (o.stamp < x.stamp))
ahead-means o x is h = elim (ahead-by (is_better o.side o.price x.price) (nat_eq o.price x.price)
    (nat_lt o.stamp x.stamp) h) [
      | inl better ↦ inl (before-is (key_of o) (key_of x) (inr (sym is.symbol_is, inr (sym is.side_is, better))))
      | inr later ↦
          let price : x.price ≡ o.price = grind (arith, nat_tests, later.0) in
          let earlier : o.stamp < x.stamp = grind (arith, nat_tests, later.1) in
          inr (key-made (key_of x) (key_of o) is.symbol_is is.side_is price, earlier)
    ]

-- what an order would cross: the levels of the other side, as far as its price goes
module _ (symbol : List ℕ) (side : Side) (price : ℕ) where
  pub crossed-means : (k : Key) → key_crossed symbol side price k ≡ true
      → (k.symbol ≡ symbol) × ((k.side ≡ opposite side) ×
      (meets side price k.side k.price ≡ true))
  crossed-means k h =
      let parts = both (bytes_eq symbol k.symbol) (meets side price k.side k.price) h in
      (sym ((bytes_eq-Decides symbol k.symbol).0 parts.0), (met_side side price k.side k.price parts.1, parts.1))

  pub crossed-of : (k : Key) → key_crossed symbol side price k ≡ true → of_side symbol (opposite side) k ≡ true
  crossed-of k h = let is = crossed-means k h in of-is symbol (opposite side) k is.0 is.1.0

  -- a better price of the other side meets too
  meets-better : (d e : Side) (p q r : ℕ) → is_better e q r ≡ true → meets d p e r ≡ true → meets d p e q ≡ true
  meets-better Buy Sell p q r better met = grind (arith, nat_tests)
  meets-better Sell Buy p q r better met = grind (arith, nat_tests)
  meets-better Buy Buy p q r better met = met
  meets-better Sell Sell p q r better met = met

  not-further : (a b : Key) → Before a b → before_side symbol (opposite side) a ≡ false
      → key_crossed symbol side price a ≡ false →
      (b.symbol ≡ symbol) × ((b.side ≡ opposite side) × (meets side price b.side b.price ≡ true)) → ⊥
  not-further a b (inl earlier) not_before not_crossed is =
      not-both (before_side symbol (opposite side) a) (side-is-before symbol (opposite side) a (inl (ap
      (λ s. symbol_before a.symbol s) (sym is.0) ∙ earlier))) not_before
  not-further a b (inr (same, inl (buy, sell))) not_before not_crossed is =
      not-both (before_side symbol (opposite side) a) (side-is-before symbol (opposite side) a (inr (
        same ∙ is.0,
        (
          buy,
          sym is.1.0
              ∙ sell,
        ),
      ))) not_before
  not-further a b (inr (same, inr (sides, better))) not_before not_crossed is =
      let met : meets side price a.side b.price ≡ true = ap (λ d. meets side price d b.price) sides ∙ is.1.1 in
      not-both (key_crossed symbol side price a)
      (ap (λ t. t && meets side price a.side a.price) (same-bytes symbol a.symbol (sym (same ∙ is.0)))
      ∙ meets-better side a.side price a.price b.price better met) not_crossed

  pub no-further : (a b : Key) → key_before a b ≡ true → before_side symbol (opposite side) a ≡ false →
      key_crossed symbol side price a ≡ false → key_crossed symbol side price b ≡ false
  no-further a b before not_before not_crossed =
      false-if (key_crossed symbol side price b)
      (λ h. not-further a b (before-means a b before) not_before not_crossed (crossed-means b h))
