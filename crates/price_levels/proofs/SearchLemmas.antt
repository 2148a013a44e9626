-- What halving finds among levels in order.
use Rattle.std.proofs.Common.{◌≡◌, ℕ, zero, suc, ◌<◌, ◌≤◌, ◌⊎◌, inl, inr, Bool, true, false, true≢false, List, [], ◌∷◌}
use Rattle.std.proofs.Common.{length, get_or, take, drop, refl, ap, sym, ◌∙◌, arith}
use Rattle.std.specs.Prelude.{if◌then◌else◌}
use Rattle.std.specs.List.{AllByRecursion}
use Rattle.std.specs.List.Sorted.{IsPartitionedBy}
use Rattle.std.specs.Str.{bytes_eq}
use Rattle.std.proofs.lemmas.Slice.Eq.{bytes_eq-Decides}
use Rattle.std.proofs.Math.Decide.{ℕ_discrete}
use Rattle.std.proofs.lemmas.List.Sums.{count_by-le-length}
use Rattle.price_levels.proofs.CountLemmas.{ends-behind, ends-before}
use Rattle.venue_model.specs.declared.orders.Side.{Side}
use Rattle.venue_model.specs.declared.orders.Side.TheVariants.{Buy, Sell}
use Rattle.price_levels.specs.declared.keys.Key.{Key}
use Rattle.price_levels.specs.declared.keys.Level.{Level}
use Rattle.price_levels.specs.Keys.{key_before, before_side, side_before, symbol_before, InOrder, count_better}
use Rattle.price_levels.specs.Keys.{BetterFirst}
use Rattle.price_levels.specs.Arena.{of_side}
use Rattle.venue_model.specs.Orders.{same_side, is_better}
use Rattle.venue_model.specs.SideLaws.{one_side}
use Rattle.price_levels.proofs.KeyLemmas.{before-means, Before, both, sides-same, key-trans, symbol-trans, symbol-apart}
use Rattle.price_levels.proofs.KeyLemmas.{same-bytes, other-bytes}

pub all-at : {X : Type 0} (P : X → Type 0) (xs : List X) (j : ℕ) (d : X) → j < length xs → AllByRecursion P xs
    → P (get_or xs j d)
all-at P [] j d within all = absurd (omega (arith, within))
all-at P (x ∷ xs) zero d within all = all.0
all-at P (x ∷ xs) (suc j) d within all = all-at P xs j d (omega (arith, within)) all.1

-- of two levels in order, the one ahead stands before the other
pub order-at : (ls : List Level) (i j : ℕ) (d : Level) → InOrder ls → i < j → j < length ls
    → key_before (get_or ls i d).key
    (get_or ls j d).key ≡ true
order-at [] i j d order lt within = absurd (omega (arith, within))
order-at (l ∷ ls) i zero d order lt within = absurd (omega (arith, lt))
order-at (l ∷ ls) zero (suc j) d order lt within = all-at (λ (m : Level). key_before l.key m.key ≡ true) ls j d (omega
    (arith, within)) order.0
order-at (l ∷ ls) (suc i) (suc j) d order lt within = order-at ls i j d order.1 (omega (arith, lt))
    (omega (arith, within))

pub parted : (p : Key → Bool) → ((a b : Key) → key_before a b ≡ true → p b ≡ true → p a ≡ true) → (ls : List Level)
    → InOrder ls →
    IsPartitionedBy (λ (l : Level). p l.key) ls
parted p down ls order = λ i j d le within holds. elim (ℕ_discrete i j) [
  | yes same ↦ ap (λ n. p (get_or ls n d).key) same ∙ holds
  | no other ↦ down (get_or ls i d).key (get_or ls j d).key (order-at ls i j d order (omega (arith, le, other)) within)
      holds
]

module _ {X : Type 0} (P : X → Type 0) where
  pub all-take : (xs : List X) (n : ℕ) → n ≤ length xs → ((k : ℕ) (d : X) → k < n → P (get_or xs k d))
      → AllByRecursion P (take n xs)
  all-take xs zero le all = tt
  all-take [] (suc n) le all = tt
  all-take (x ∷ xs) (suc n) le all = (
    all 0 x (omega arith),
    all-take xs n (omega (arith, le)) (λ k d lt. all (suc k) d (omega
        (arith, lt))),
  )

  pub all-drop : (xs : List X) (n : ℕ) → ((k : ℕ) (d : X) → n ≤ k → k < length xs → P (get_or xs k d))
      → AllByRecursion P (drop n xs)
  all-drop [] zero all = tt
  all-drop [] (suc n) all = tt
  all-drop (x ∷ xs) zero all = (
    all 0 x (omega arith) (omega arith),
    all-drop xs 0 (λ k d le lt. all (suc k) d (omega arith) (omega
        (arith, lt))),
  )
  all-drop (x ∷ xs) (suc n) all = all-drop xs n (λ k d le lt. all (suc k) d (omega (arith, le)) (omega (arith, lt)))

-- a level before a side: of an earlier symbol, or a buy's where the side is Sell
abbrev pub BeforeSide : List ℕ → Side → Key → Type 0
BeforeSide symbol side k = (symbol_before k.symbol symbol ≡ true)
    ⊎ ((k.symbol ≡ symbol) × ((k.side ≡ Buy) × (side ≡ Sell)))

side-false : (d e : Side) → side_before d e false ≡ true → (d ≡ Buy) × (e ≡ Sell)
side-false Buy Sell h = (refl, refl)
side-false Buy Buy h = absurd (true≢false (sym h))
side-false Sell Sell h = absurd (true≢false (sym h))
side-false Sell Buy h = absurd (true≢false (sym h))

pub side-means : (symbol : List ℕ) (side : Side) (k : Key) → before_side symbol side k ≡ true → BeforeSide symbol side k
side-means symbol side k h = elim (bytes_eq k.symbol symbol) as (λ t. bytes_eq k.symbol symbol ≡ t →
    (if t then side_before k.side side false else symbol_before k.symbol symbol) ≡ true → BeforeSide symbol side k) [
      | true ↦ λ same g. inr ((bytes_eq-Decides k.symbol symbol).0 same, side-false k.side side g)
      | false ↦ λ other g. inl g
    ] refl h

pub side-is-before : (symbol : List ℕ) (side : Side) (k : Key) → BeforeSide symbol side k
    → before_side symbol side k ≡ true
side-is-before symbol side k (inl h) =
    ap (λ t. if t then side_before k.side side false else symbol_before k.symbol symbol) (other-bytes k.symbol symbol
    (symbol-apart k.symbol symbol h)) ∙ h
side-is-before symbol side k (inr (same, (buy, sell))) =
    ap (λ t. if t then side_before k.side side false else symbol_before k.symbol symbol)
    (same-bytes k.symbol symbol same)
    ∙ ap (λ d. side_before d side false) buy ∙ ap (λ e. side_before Buy e false) sell

-- what stands before a level that is before a side, is before it too
down : (symbol : List ℕ) (side : Side) (a b : Key) → Before a b → BeforeSide symbol side b → BeforeSide symbol side a
down symbol side a b (inl h) (inl g) = inl (symbol-trans a.symbol b.symbol symbol h g)
down symbol side a b (inl h) (inr (same, of)) = inl (ap (λ s. symbol_before a.symbol s) (sym same) ∙ h)
down symbol side a b (inr (same, of)) (inl g) = inl (ap (λ s. symbol_before s symbol) same ∙ g)
down symbol side a b (inr (same, inl (buy, sell))) (inr (also, (buys, sells))) = inr (same ∙ also, (buy, sells))
down symbol side a b (inr (same, inr (sides, better))) (inr (also, (buy, sells))) =
    inr (same ∙ also, (sides ∙ buy, sells))

pub side-down : (symbol : List ℕ) (side : Side) (a b : Key) → key_before a b ≡ true → before_side symbol side b ≡ true →
    before_side symbol side a ≡ true
side-down symbol side a b before h = side-is-before symbol side a (down symbol side a b (before-means a b before)
    (side-means symbol side b h))

-- among levels of one symbol and side, prices alone say which stands before which
pub by-price : (a k : Key) → of_side k.symbol k.side a ≡ true → key_before a k ≡ is_better k.side a.price k.price
by-price a k of =
    let parts = both (bytes_eq a.symbol k.symbol) (same_side a.side k.side) of in
    let sides = one_side a.side k.side parts.1 in
    ap (λ t. if t then side_before a.side k.side (is_better a.side a.price k.price) else symbol_before a.symbol
    k.symbol) parts.0
    ∙ ap (λ d. side_before d k.side (is_better d a.price k.price)) sides
    ∙ sides-same k.side (is_better k.side a.price k.price)

-- among levels of one symbol and side those of a better price stand first, and end at the number of them
module _ (k : Key) (side : Side) (is : k.side ≡ side) (levels : List Level) (order : InOrder levels)
    (one : AllByRecursion (λ (l : Level). of_side k.symbol k.side l.key ≡ true) levels) where
  test-at : (i : ℕ) (d : Level) → i < length levels → key_before (get_or levels i d).key k
      ≡ is_better side (get_or levels i d).key.price k.price
  test-at i d lt =
      by-price (get_or levels i d).key k
      (all-at (λ (l : Level). of_side k.symbol k.side l.key ≡ true) levels i d lt one)
      ∙ ap (λ s. is_better s (get_or levels i d).key.price k.price) is

  pub better-first : BetterFirst side k.price levels
  better-first = λ i j d le lt h.
      sym (test-at i d (omega (arith, le, lt)))
      ∙ parted (λ j. key_before j k) (λ a b h g. key-trans a b k h g) levels order i j d le lt (test-at j d lt ∙ h)

  better-at : (i : ℕ) (d : Level) → i < count_better side k.price levels → i < length levels
      → key_before (get_or levels i d).key k ≡ true
  better-at i d lt in-it = elim (key_before (get_or levels i d).key k) as (λ t. key_before (get_or levels i d).key k ≡ t
      → t ≡ true) [
        | true ↦ λ h. refl
        | false ↦ λ h. let end = ends-before (λ (l : Level). is_better side l.key.price k.price) levels better-first i d
            (sym (test-at i d in-it) ∙ h) in-it in absurd (omega (arith, end, lt))
      ] refl

  other-at : (i : ℕ) (d : Level) → count_better side k.price levels ≤ i → i < length levels
      → key_before (get_or levels i d).key k ≡ false
  other-at i d le in-it = elim (key_before (get_or levels i d).key k) as (λ t. key_before (get_or levels i d).key k ≡ t
      → t ≡ false) [
        | true ↦ λ h. let end = ends-behind (λ (l : Level). is_better side l.key.price k.price) levels better-first i d
            in-it
            (sym (test-at i d in-it) ∙ h) in absurd (omega (arith, end, le))
        | false ↦ λ h. refl
      ] refl

  within-better : (n : ℕ) → n ≡ count_better side k.price levels → n ≤ length levels
  within-better n e = omega (arith, e, count_by-le-length (λ (l : Level). is_better side l.key.price k.price) levels)

  pub before-better : (n : ℕ) → n ≡ count_better side k.price levels
      → AllByRecursion (λ (l : Level). key_before l.key k ≡ true) (take n levels)
  before-better n e = all-take (λ (l : Level). key_before l.key k ≡ true) levels n (within-better n e)
      (λ i d lt. better-at i d
      (omega (arith, e, lt)) (omega (arith, within-better n e, lt)))

  pub behind-better : (n : ℕ) → n ≡ count_better side k.price levels
      → AllByRecursion (λ (l : Level). key_before l.key k ≡ false) (drop n levels)
  behind-better n e = all-drop (λ (l : Level). key_before l.key k ≡ false) levels n
      (λ i d le lt. other-at i d (omega (arith, e, le)) lt)
