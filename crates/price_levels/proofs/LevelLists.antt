-- Levels in order, as one of them is found, comes, changes or goes.
use Rattle.std.proofs.Common.{◌≡◌, ℕ, zero, suc, ◌+◌, ◌<◌, ◌≤◌, true, false, true≢false, List, [], ◌∷◌, ◌++◌, length}
use Rattle.std.proofs.Common.{get_or, take, drop, Option, Some, None, refl, ap, sym, subst, ◌∙◌, arith, add-one}
use Rattle.std.proofs.Common.{add-zero, take-append-drop, drop-cons, length-drop}
use Rattle.std.proofs.lemmas.List.{get_or-drop}
use Rattle.std.specs.Prelude.{◌≢◌, if◌then◌else◌}
use Rattle.std.specs.List.{AllByRecursion, insert}
use Rattle.price_levels.specs.declared.keys.Key.{Key}
use Rattle.price_levels.specs.declared.keys.Level.{Level}
use Rattle.price_levels.specs.Keys.{same_key, key_before, InOrder, level_of}
use Rattle.price_levels.specs.Arena.{holds, levels_with}
use Rattle.price_levels.proofs.KeyLemmas.{key-is, key-itself, key-apart, key-trans, key-other-way, not-same}

-- none of these levels is the key's
abbrev pub NotOf : Key → List Level → Type 0
NotOf k levels = AllByRecursion (λ m. m.key ≢ k) levels

module _ {X : Type 0} where
  pub all-map : (P Q : X → Type 0) → ((x : X) → P x → Q x) → (xs : List X) → AllByRecursion P xs → AllByRecursion Q xs
  all-map P Q f [] all = tt
  all-map P Q f (x ∷ xs) all = (f x all.0, all-map P Q f xs all.1)

  pub all-append : (P : X → Type 0) (xs ys : List X) → AllByRecursion P xs → AllByRecursion P ys
      → AllByRecursion P (xs ++ ys)
  all-append P [] ys all more = more
  all-append P (x ∷ xs) ys all more = (all.0, all-append P xs ys all.1 more)

  pub all-front : (P : X → Type 0) (xs ys : List X) → AllByRecursion P (xs ++ ys) → AllByRecursion P xs
  all-front P [] ys all = tt
  all-front P (x ∷ xs) ys all = (all.0, all-front P xs ys all.1)

  pub all-back : (P : X → Type 0) (xs ys : List X) → AllByRecursion P (xs ++ ys) → AllByRecursion P ys
  all-back P [] ys all = all
  all-back P (x ∷ xs) ys all = all-back P xs ys all.1

-- the level of a key in a list
pub level-none : (k : Key) (ls : List Level) → NotOf k ls → level_of k ls ≡ None
level-none k [] not = refl
level-none k (l ∷ ls) not = ap (λ t. if t then Some l else level_of k ls) (not-same l.key k not.0)
    ∙ level-none k ls not.1

pub level-here : (k : Key) (xs ys : List Level) (l : Level) → NotOf k xs → l.key ≡ k
    → level_of k (xs ++ l ∷ ys) ≡ Some l
level-here k [] ys l not is = ap (λ t. if t then Some l else level_of k ys)
    (ap (same_key l.key) (sym is) ∙ key-itself l.key)
level-here k (x ∷ xs) ys l not is =
    ap (λ t. if t then Some x else level_of k (xs ++ l ∷ ys)) (not-same x.key k not.0) ∙ level-here k xs ys l not.1 is

pub level-over : (k : Key) (xs ys : List Level) (l : Level) → l.key ≢ k
    → level_of k (xs ++ l ∷ ys) ≡ level_of k (xs ++ ys)
level-over k [] ys l other = ap (λ t. if t then Some l else level_of k ys) (not-same l.key k other)
level-over k (x ∷ xs) ys l other = ap (λ r. if same_key x.key k then Some x else r) (level-over k xs ys l other)

-- what holds of each level holds of the one that is found, and it is of the key
pub level-all : (P : Level → Type 0) (k : Key) (ls : List Level) (l : Level) → AllByRecursion P ls
    → level_of k ls ≡ Some l → P l
level-all P k [] l all is = absurd (let e : None ≡ Some l = is in cc)
level-all P k (m ∷ ls) l all is = elim (same_key m.key k) as (λ t. (if t then Some m else level_of k ls) ≡ Some l → P l) [
  | true ↦ λ h. let e : m ≡ l = cc in subst P e all.0
  | false ↦ λ h. level-all P k ls l all.1 h
] is

pub level-key : (k : Key) (ls : List Level) (l : Level) → level_of k ls ≡ Some l → l.key ≡ k
level-key k [] l is = absurd (let e : None ≡ Some l = is in cc)
level-key k (m ∷ ls) l is = elim (same_key m.key k) as (λ t. same_key m.key k ≡ t
    → (if t then Some m else level_of k ls) ≡ Some l →
    l.key ≡ k) [
      | true ↦ λ same h. let e : m ≡ l = cc in ap (λ (x : Level). x.key) (sym e) ∙ key-is m.key k same
      | false ↦ λ other h. level-key k ls l h
    ] refl is

-- the order of the levels
pub order-back : (xs ys : List Level) → InOrder (xs ++ ys) → InOrder ys
order-back [] ys order = order
order-back (x ∷ xs) ys order = order-back xs ys order.1

pub order-front : (xs ys : List Level) → InOrder (xs ++ ys) → InOrder xs
order-front [] ys order = tt
order-front (x ∷ xs) ys order = (
  all-front (λ m. key_before x.key m.key ≡ true) xs ys order.0,
  order-front xs ys order.1,
)

pub order-one-more : (xs ys : List Level) (l : Level) → InOrder (xs ++ ys)
    → AllByRecursion (λ x. key_before x.key l.key ≡ true) xs →
    AllByRecursion (λ y. key_before l.key y.key ≡ true) ys → InOrder (xs ++ l ∷ ys)
order-one-more [] ys l order before behind = (behind, order)
order-one-more (x ∷ xs) ys l order before behind = (
  all-append (λ m. key_before x.key m.key ≡ true) xs (l ∷ ys)
      (all-front (λ m. key_before x.key m.key ≡ true) xs ys order.0)
      (before.0, all-back (λ m. key_before x.key m.key ≡ true) xs ys order.0),
  order-one-more xs ys l order.1 before.1 behind,
)

pub order-one-less : (xs ys : List Level) (l : Level) → InOrder (xs ++ l ∷ ys) → InOrder (xs ++ ys)
order-one-less [] ys l order = order.1
order-one-less (x ∷ xs) ys l order = (
  all-append (λ m. key_before x.key m.key ≡ true) xs ys
      (all-front (λ m. key_before x.key m.key ≡ true) xs (l ∷ ys) order.0)
      (all-back (λ m. key_before x.key m.key ≡ true) xs (l ∷ ys) order.0).1,
  order-one-less xs ys l order.1,
)

pub order-before : (xs ys : List Level) (l : Level) → InOrder (xs ++ l ∷ ys)
    → AllByRecursion (λ x. key_before x.key l.key ≡ true) xs
order-before [] ys l order = tt
order-before (x ∷ xs) ys l order = (
  (all-back (λ m. key_before x.key m.key ≡ true) xs (l ∷ ys) order.0).0,
  order-before xs ys l order.1,
)

pub order-behind : (xs ys : List Level) (l : Level) → InOrder (xs ++ l ∷ ys)
    → AllByRecursion (λ y. key_before l.key y.key ≡ true) ys
order-behind xs ys l order = (order-back xs (l ∷ ys) order).0

-- all from a level on that isn't before a key, nor its own, stand behind the key
pub all-behind : (k : Key) (l : Level) (ys : List Level) → InOrder (l ∷ ys) → key_before l.key k ≡ false → l.key ≢ k →
    AllByRecursion (λ y. key_before k y.key ≡ true) (l ∷ ys)
all-behind k l ys order not other =
    let first = key-other-way l.key k not other in (
      first,
      all-map (λ y. key_before l.key y.key ≡ true) (λ y. key_before k y.key ≡ true)
          (λ y h. key-trans k l.key y.key first h) ys order.0,
    )

pub not-before-key : (k : Key) (xs : List Level) → AllByRecursion (λ x. key_before x.key k ≡ true) xs → NotOf k xs
not-before-key k xs all = all-map (λ x. key_before x.key k ≡ true) (λ x. x.key ≢ k) (λ x h. key-apart x.key k h) xs all

pub not-behind-key : (k : Key) (xs : List Level) → AllByRecursion (λ x. key_before k x.key ≡ true) xs → NotOf k xs
not-behind-key k xs all = all-map (λ x. key_before k x.key ≡ true) (λ x. x.key ≢ k)
    (λ x h is. key-apart k x.key h (sym is)) xs all

-- a level at its place
pub record IsLevelAt (levels : List Level) (at : ℕ) (k : Key) (l : Level) : Type 0 where
  pub within : at < length levels
  pub split : levels ≡ take at levels ++ l ∷ drop (at + 1) levels
  pub key : l.key ≡ k
  pub before : NotOf k (take at levels)
  pub behind : NotOf k (drop (at + 1) levels)

pub split-at : {X : Type 0} (xs : List X) (at : ℕ) (x : X) → at < length xs → x ≡ get_or xs at x
    → xs ≡ take at xs ++ x ∷ drop (at + 1) xs
split-at xs at x within is = sym (take-append-drop at xs) ∙ ap (λ zs. take at xs ++ zs) (drop-cons xs at x within)
    ∙ ap (λ y. take at xs ++ y ∷ drop (suc at) xs) (sym is) ∙ ap (λ n. take at xs ++ x ∷ drop n xs) (sym (add-one at))

pub holds-is : (levels : List Level) (at : ℕ) (k : Key) (l : Level) → at < length levels → l ≡ get_or levels at l →
    holds levels at k ≡ same_key l.key k
holds-is [] at k l within is = absurd (omega (arith, within))
holds-is (m ∷ levels) zero k l within is = ap (λ (x : Level). same_key x.key k) (sym is)
holds-is (m ∷ levels) (suc at) k l within is = holds-is levels at k l (omega (arith, within)) is

pub holds-beyond : (levels : List Level) (at : ℕ) (k : Key) → length levels ≤ at → holds levels at k ≡ false
holds-beyond [] at k beyond = refl
holds-beyond (m ∷ levels) zero k beyond = absurd (omega (arith, beyond))
holds-beyond (m ∷ levels) (suc at) k beyond = holds-beyond levels at k (omega (arith, beyond))

pub holds-within : (levels : List Level) (at : ℕ) (k : Key) → holds levels at k ≡ true → at < length levels
holds-within [] at k h = absurd (true≢false (sym h))
holds-within (m ∷ levels) zero k h = omega arith
holds-within (m ∷ levels) (suc at) k h = let lt = holds-within levels at k h in omega (arith, lt)

-- the search has come to a place
module _ (levels : List Level) (at : ℕ) (k : Key) (order : InOrder levels)
    (before : AllByRecursion (λ l. key_before l.key k ≡ true) (take at levels))
    (behind : AllByRecursion (λ l. key_before l.key k ≡ false) (drop at levels)) where
  -- the key's level stands there
  pub found : (l : Level) → at < length levels → l ≡ get_or levels at l → l.key ≡ k → IsLevelAt levels at k l
  found l within is key =
      let split = split-at levels at l within is in
      let order' : InOrder (take at levels ++ l ∷ drop (at + 1) levels) = subst InOrder split order in
      record {
        within = within;
        split = split;
        key = key;
        before = not-before-key k (take at levels) before;
        behind = not-behind-key k (drop (at + 1) levels)
            (subst (λ j. AllByRecursion (λ y. key_before j y.key ≡ true) (drop
            (at + 1) levels)) key
            (order-behind (take at levels) (drop (at + 1) levels) l order'));
      }

  pub found-holds : (l : Level) → holds levels at k ≡ true → l ≡ get_or levels at l → IsLevelAt levels at k l
  found-holds l h is =
      let within = holds-within levels at k h in
      found l within is (key-is l.key k (sym (holds-is levels at k l within is) ∙ h))

  -- it doesn't, so no level is the key's, and all from there on stand behind it
  from-there : (ys : List Level) → ys ≡ drop at levels → holds levels at k ≡ false
      → AllByRecursion (λ y. key_before k y.key ≡ true) ys
  from-there [] is h = tt
  from-there (y ∷ ys) is h =
      let cut : levels ≡ take at levels ++ y ∷ ys = sym (take-append-drop at levels)
      ∙ ap (λ zs. take at levels ++ zs) (sym is) in
      let long = ap (length {A = Level}) is in
      let drops = length-drop at levels in
      let within : at < length levels = omega (arith, long, drops) in
      let here : y ≡ get_or levels at y = ap (λ zs. get_or zs 0 y) is ∙ get_or-drop at levels 0 y
      ∙ ap (λ n. get_or levels n y)
      (add-zero at) in
      let ahead : AllByRecursion (λ l. key_before l.key k ≡ false) (y ∷ ys) =
      subst (AllByRecursion (λ l. key_before l.key k ≡ false))
      (sym is) behind in
      let other : y.key ≢ k = λ same. true≢false (sym (ap (same_key y.key) (sym same) ∙ key-itself y.key) ∙ sym
      (holds-is levels at k y within here) ∙ h) in
      all-behind k y ys (order-back (take at levels) (y ∷ ys) (subst InOrder cut order)) ahead.0 other

  pub behind-there : holds levels at k ≡ false → AllByRecursion (λ y. key_before k y.key ≡ true) (drop at levels)
  behind-there h = from-there (drop at levels) refl h

  pub none-there : holds levels at k ≡ false → level_of k levels ≡ None
  none-there h =
      ap (level_of k) (sym (take-append-drop at levels))
      ∙ level-none k (take at levels ++ drop at levels) (all-append (λ m. m.key ≢ k) (take at levels) (drop at levels)
      (not-before-key k (take at levels) before) (not-behind-key k (drop at levels) (behind-there h)))

  -- where the key has a level, it is the one there
  pub found-level : (m l : Level) → level_of k levels ≡ Some m → l ≡ get_or levels at l → IsLevelAt levels at k l
  found-level m l is here = elim (holds levels at k) as (λ t. holds levels at k ≡ t → IsLevelAt levels at k l) [
    | true ↦ λ h. found-holds l h here
    | false ↦ λ h. let e : None ≡ Some m = sym (none-there h) ∙ is in absurd (cc)
  ] refl

  pub found-within : (m : Level) → level_of k levels ≡ Some m → at < length levels
  found-within m is = elim (holds levels at k) as (λ t. holds levels at k ≡ t → at < length levels) [
    | true ↦ λ h. holds-within levels at k h
    | false ↦ λ h. let e : None ≡ Some m = sym (none-there h) ∙ is in absurd (cc)
  ] refl

-- the level of one key is another now, or gone; the others are as before
pub record Changes (old new : List Level) (k : Key) (level : Option Level) : Type 0 where
  pub order : InOrder new
  pub here : level_of k new ≡ level
  pub others : (j : Key) → j ≢ k → level_of j new ≡ level_of j old

-- a level comes
pub opened : (levels : List Level) (at : ℕ) (l : Level) → InOrder levels →
    AllByRecursion (λ m. key_before m.key l.key ≡ true) (take at levels)
    → AllByRecursion (λ m. key_before m.key l.key ≡ false)
    (drop at levels) →
    holds levels at l.key ≡ false → Changes levels (insert levels at l) l.key (Some l)
opened levels at l order before behind h =
    let whole = take-append-drop at levels in
    record {
      order = order-one-more (take at levels) (drop at levels) l (subst InOrder (sym whole) order) before
          (behind-there levels at l.key order before behind h);
      here = level-here l.key (take at levels) (drop at levels) l (not-before-key l.key (take at levels) before) refl;
      others = λ j other. level-over j (take at levels) (drop at levels) l (λ is. other (sym is))
          ∙ ap (level_of j) whole;
    }

module _ (levels : List Level) (at : ℕ) (k : Key) (l : Level) (order : InOrder levels) (is : IsLevelAt levels at k l)
  where
    pub split-order : InOrder (take at levels ++ l ∷ drop (at + 1) levels)
    split-order = subst InOrder is.split order

    pub others-over : (j : Key) → j ≢ k → level_of j levels ≡ level_of j (take at levels ++ drop (at + 1) levels)
    others-over j other = ap (level_of j) is.split ∙ level-over j (take at levels) (drop (at + 1) levels) l
        (λ same. other (sym same
        ∙ is.key))

    pub level-is : level_of k levels ≡ Some l
    level-is = ap (level_of k) is.split ∙ level-here k (take at levels) (drop (at + 1) levels) l is.before is.key

    -- a level is replaced by one of its key
    pub replaced : (m : Level) → m.key ≡ l.key → Changes levels (levels_with levels at (m ∷ [])) k (Some m)
    replaced m same = record {
      order = order-one-more (take at levels) (drop (at + 1) levels) m
          (order-one-less (take at levels) (drop (at + 1) levels) l split-order)
          (subst (λ j. AllByRecursion (λ x. key_before x.key j ≡ true) (take at levels)) (sym same)
          (order-before (take at levels) (drop
          (at + 1) levels) l split-order))
          (subst (λ j. AllByRecursion (λ x. key_before j x.key ≡ true) (drop (at + 1) levels)) (sym same)
          (order-behind (take at levels)
          (drop (at + 1) levels) l split-order));
      here = level-here k (take at levels) (drop (at + 1) levels) m is.before (same ∙ is.key);
      others = λ j other. level-over j (take at levels) (drop (at + 1) levels) m (λ e. other (sym e ∙ same ∙ is.key))
          ∙ sym
          (others-over j other);
    }

    -- a level goes
    pub closed : Changes levels (levels_with levels at []) k None
    closed = record {
      order = order-one-less (take at levels) (drop (at + 1) levels) l split-order;
      here = level-none k (take at levels ++ drop (at + 1) levels) (all-append (λ m. m.key ≢ k) (take at levels) (drop
          (at + 1) levels) is.before is.behind);
      others = λ j other. sym (others-over j other);
    }
