-- Where what passes a test stands first, it ends at the number of those that pass.
use Rattle.std.proofs.Common.{◌≡◌, ℕ, zero, suc, ◌+◌, ◌*◌, ◌⊎◌, inl, inr, ◌<◌, ◌≤◌, Bool, true, false, true≢false, List}
use Rattle.std.proofs.Common.{[], ◌∷◌, length, get_or, refl, ap, sym, ◌∙◌, arith}
use Rattle.std.specs.Prelude.{cond}
use Rattle.std.specs.List.{count_by}
use Rattle.std.specs.List.Sorted.{IsPartitionedBy}
use Rattle.std.proofs.lemmas.List.Sums.{sum_by-cons}
use mir.Val.{bool_byte}
use Rattle.venue_model.specs.declared.orders.Side.{Side}
use Rattle.venue_model.specs.Orders.{is_better}
use Rattle.price_levels.specs.declared.keys.Level.{Level}
use Rattle.price_levels.specs.Keys.{count_better, BetterFirst}

module _ {X : Type 0} (p : X → Bool) where
  count-of : (x : X) (xs : List X) → p x ≡ true → count_by p (x ∷ xs) ≡ suc (count_by p xs)
  count-of x xs h =
      let more = sum_by-cons (λ x. cond (p x) 1 0) x xs in
      let one : ◌≡◌ {A = ℕ} (cond (p x) 1 0) 1 = ap (λ t. cond t 1 0) h in
      omega (arith, more, one)

  count-past : (x : X) (xs : List X) → p x ≡ false → count_by p (x ∷ xs) ≡ count_by p xs
  count-past x xs h =
      let more = sum_by-cons (λ x. cond (p x) 1 0) x xs in
      let none : ◌≡◌ {A = ℕ} (cond (p x) 1 0) 0 = ap (λ t. cond t 1 0) h in
      omega (arith, more, none)

  count-any : (x : X) (xs : List X) → count_by p (x ∷ xs) ≤ suc (count_by p xs)
  count-any x xs = elim (p x) as (λ t. p x ≡ t → count_by p (x ∷ xs) ≤ suc (count_by p xs)) [
    | true ↦ λ h. let e = count-of x xs h in omega arith
    | false ↦ λ h. let e = count-past x xs h in omega arith
  ] refl

  rest-parted : (x : X) (xs : List X) → IsPartitionedBy p (x ∷ xs) → IsPartitionedBy p xs
  rest-parted x xs parts = λ i j d le lt h. parts (suc i) (suc j) d (omega (arith, le)) (omega (arith, lt)) h

  pub ends-behind : (xs : List X) → IsPartitionedBy p xs → (i : ℕ) (d : X) → i < length xs → p (get_or xs i d) ≡ true
      → i < count_by p xs
  ends-behind [] parts i d lt h = absurd (omega (arith, lt))
  ends-behind (x ∷ xs) parts zero d lt h = let e = count-of x xs h in omega arith
  ends-behind (x ∷ xs) parts (suc i) d lt h =
      let e = count-of x xs (parts 0 (suc i) d (omega arith) lt h) in
      let more = ends-behind xs (rest-parted x xs parts) i d (omega (arith, lt)) h in
      omega arith

  pub ends-before : (xs : List X) → IsPartitionedBy p xs → (i : ℕ) (d : X) → p (get_or xs i d) ≡ false → i < length xs
      → count_by p xs ≤ i
  ends-before [] parts i d h lt = absurd (omega (arith, lt))
  ends-before (x ∷ xs) parts (suc i) d h lt =
      let any = count-any x xs in
      let less = ends-before xs (rest-parted x xs parts) i d h (omega (arith, lt)) in
      omega arith
  ends-before (x ∷ []) parts zero d h lt = let e = count-past x [] h in omega arith
  ends-before (x ∷ y ∷ ys) parts zero d h lt =
      let e = count-past x (y ∷ ys) h in
      let none = elim (p y) as (λ t. p y ≡ t → count_by p (y ∷ ys) ≤ 0) [
        | true ↦ λ g. absurd (true≢false (sym (parts 0 1 d (omega arith) (omega arith) g) ∙ h))
        | false ↦ λ also. ends-before (y ∷ ys) (rest-parted x (y ∷ ys) parts) 0 d also (omega arith)
      ] refl in
      omega arith

-- what one look at a level tells of where those of a better price end
pub one-look : (side : Side) (price : ℕ) (levels : List Level) (i : ℕ) (d : Level) (b : Bool)
    → BetterFirst side price levels →
    i < length levels → b ≡ is_better side (get_or levels i d).key.price price →
    ((b ≡ true) × (i < count_better side price levels)) ⊎ ((b ≡ false) × (count_better side price levels ≤ i))
one-look side price levels i d true parts lt is =
    inl (refl, ends-behind (λ (l : Level). is_better side l.key.price price) levels parts i d lt (sym is))
one-look side price levels i d false parts lt is =
    inr (refl, ends-before (λ (l : Level). is_better side l.key.price price) levels parts i d (sym is) lt)

pub look-most : (n : ℕ) (b : Bool) → n ≡ bool_byte b → n ≤ 1
look-most n true is = omega (arith, is)
look-most n false is = omega (arith, is)

-- one level more is looked at: it is counted, or those of a better price ended
pub count-on : (at next n end : ℕ) (b : Bool) → ((b ≡ true) × (next < end)) ⊎ ((b ≡ false) × (end ≤ next))
    → n ≡ bool_byte b →
    (next ≤ end → at ≡ next) → (end ≤ next → at ≡ end) →
    (next + 1 ≤ end → at + n ≡ next + 1) × (end ≤ next + 1 → at + n ≡ end)
count-on at next n end b (inl (better, lt)) is all past =
    let one : n ≡ 1 = is ∙ ap bool_byte better in (λ more. omega arith, λ less. omega arith)
count-on at next n end b (inr (not, le)) is all past =
    let none : n ≡ 0 = is ∙ ap bool_byte not in (λ more. omega arith, λ less. omega arith)

-- eight levels more are passed over, or those of a better price end within them
past-eights : (from eights eight end : ℕ) → end ≤ from + 8 * eight + 7 → (from + 8 * eight ≤ end → eights ≡ eight) →
    (end < from + 8 * eight → end < from + 8 * eights + 8) → end < from + 8 * eights + 8
past-eights from eights eight end le all past = grind arith

pub eights-on : (from eights eight n end : ℕ) (b : Bool) →
    ((b ≡ true) × (from + 8 * eight + 7 < end)) ⊎ ((b ≡ false) × (end ≤ from + 8 * eight + 7)) → n ≡ bool_byte b →
    from + 8 * eights ≤ end → (from + 8 * eight ≤ end → eights ≡ eight)
    → (end < from + 8 * eight → end < from + 8 * eights + 8) →
    (from + 8 * (eights + n) ≤ end) × (from + 8 * (eight + 1) ≤ end → eights + n ≡ eight + 1) ×
    (end < from + 8 * (eight + 1) → end < from + 8 * (eights + n) + 8)
eights-on from eights eight n end b (inl (better, lt)) is at all past =
    let one : n ≡ 1 = is ∙ ap bool_byte better in (omega arith, λ more. omega arith, λ less. omega arith)
eights-on from eights eight n end b (inr (not, le)) is at all past =
    let none : n ≡ 0 = is ∙ ap bool_byte not in
    let near = past-eights from eights eight end le all past in
    (omega arith, λ more. omega arith, λ less. omega arith)
