-- A look at a level, and the one ahead of it, says whether a key's place is there.
use Rattle.std.proofs.Common.{◌≡◌, ℕ, ◌-◌, ◌<◌, ◌≤◌, true, false, true≢false, List, [], ◌∷◌, length, get_or, take}
use Rattle.std.proofs.Common.{drop, refl, ap, sym, subst, ◌∙◌, arith}
use Rattle.std.specs.List.{AllByRecursion}
use Rattle.std.proofs.lemmas.List.{get_or_default}
use Rattle.price_levels.specs.declared.keys.Key.{Key}
use Rattle.price_levels.specs.declared.keys.Level.{Level}
use Rattle.price_levels.specs.Keys.{key_before, InOrder}
use Rattle.price_levels.specs.Arena.{holds}
use Rattle.price_levels.proofs.KeyLemmas.{key-is, key-trans, key-apart}
use Rattle.price_levels.proofs.LevelLists.{holds-is, holds-within}
use Rattle.price_levels.proofs.SearchLemmas.{order-at, parted, all-take, all-drop}

not-itself : (a : Key) → key_before a a ≡ false
not-itself a = elim (key_before a a) as (λ t. key_before a a ≡ t → t ≡ false) [
  | true ↦ λ h. absurd (key-apart a a h refl)
  | false ↦ λ h. refl
] refl

module _ (k : Key) (levels : List Level) (order : InOrder levels) (at : ℕ) (l : Level) where
  -- the level ahead of the place stands before the key
  pub all-ahead : 0 < at → at ≤ length levels → l ≡ get_or levels (at - 1) l → key_before l.key k ≡ true
      → AllByRecursion (λ (m : Level). key_before m.key k ≡ true) (take at levels)
  all-ahead some within is before = all-take (λ (m : Level). key_before m.key k ≡ true) levels at within (λ i d lt.
      parted (λ j. key_before j k) (λ a b h g. key-trans a b k h g) levels order i (at - 1) d (omega (arith, lt))
      (omega (arith, some, within))
      (ap (λ (m : Level). key_before m.key k) (get_or_default levels (at - 1) d l (omega (arith, some, within))
      ∙ sym is)
      ∙ before))

  -- the level at the place doesn't
  pub none-behind : at < length levels → l ≡ get_or levels at l → key_before l.key k ≡ false
      → AllByRecursion (λ (m : Level). key_before m.key k ≡ false) (drop at levels)
  none-behind within is not = all-drop (λ (m : Level). key_before m.key k ≡ false) levels at (λ i d le lt.
      elim (key_before (get_or levels i d).key k) as (λ t. key_before (get_or levels i d).key k ≡ t → t ≡ false) [
        | true ↦ λ h. absurd (true≢false (sym (parted (λ j. key_before j k) (λ a b f g. key-trans a b k f g) levels
            order
            at i d le lt h) ∙ ap (λ (m : Level). key_before m.key k) (get_or_default levels at d l within
            ∙ sym is) ∙ not))
        | false ↦ λ h. refl
      ] refl)

  -- the level at the place is the key's
  module _ (within : at < length levels) (is : l ≡ get_or levels at l) (found : holds levels at k ≡ true) where
    its-key : (d : Level) → (get_or levels at d).key ≡ k
    its-key d = ap (λ (m : Level). m.key) (get_or_default levels at d l within ∙ sym is)
        ∙ key-is l.key k (sym (holds-is levels at k l within is) ∙ found)

    pub found-ahead : AllByRecursion (λ (m : Level). key_before m.key k ≡ true) (take at levels)
    found-ahead = all-take (λ (m : Level). key_before m.key k ≡ true) levels at (omega (arith, within)) (λ i d lt.
        subst (λ j. key_before (get_or levels i d).key j ≡ true) (its-key d) (order-at levels i at d order lt within))

    pub found-behind : AllByRecursion (λ (m : Level). key_before m.key k ≡ false) (drop at levels)
    found-behind = none-behind within is (ap (λ j. key_before j k) (key-is l.key k
        (sym (holds-is levels at k l within is) ∙ found)) ∙ not-itself k)

-- without a level that is named
pub some-there : (levels : List Level) (at : ℕ) → at < length levels → (l : Level) × (l ≡ get_or levels at l)
some-there [] at within = absurd (omega (arith, within))
some-there (m ∷ levels) at within = let l = get_or (m ∷ levels) at m in (l, get_or_default (m ∷ levels) at m l within)

module _ (k : Key) (levels : List Level) (order : InOrder levels) (at : ℕ) (found : holds levels at k ≡ true) where
  pub at-it-ahead : AllByRecursion (λ (m : Level). key_before m.key k ≡ true) (take at levels)
  at-it-ahead =
      let within = holds-within levels at k found in
      let l = some-there levels at within in
      found-ahead k levels order at l.0 within l.1 found

  pub at-it-behind : AllByRecursion (λ (m : Level). key_before m.key k ≡ false) (drop at levels)
  at-it-behind =
      let within = holds-within levels at k found in
      let l = some-there levels at within in
      found-behind k levels order at l.0 within l.1 found
