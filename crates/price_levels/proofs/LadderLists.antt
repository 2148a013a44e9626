-- All levels in a row, cut at a place of one ladder.
use Rattle.std.proofs.Common.{◌≡◌, ℕ, zero, suc, ◌+◌, ◌<◌, ◌≤◌, inl, inr, false, List, [], ◌∷◌, ◌++◌, length, get_or}
use Rattle.std.proofs.Common.{take, drop, Some, None, refl, ap, sym, subst, ◌∙◌, arith, append_assoc, drop-cons}
use Rattle.std.proofs.Common.{length-append}
use Rattle.std.specs.Prelude.{slice_set, if◌then◌else◌}
use Rattle.std.specs.List.{AllByRecursion, insert}
use Rattle.std.proofs.Math.Seq.{take-append-add, drop-append-add}
use Rattle.std.proofs.lemmas.List.{take-append-le, drop-append-le, get_or-append-add, set_split, drop_all}
use Rattle.std.proofs.Math.ListN.{get_or-append}
use Rattle.std.proofs.lemmas.Bool.{cases_lt}
use Rattle.venue_model.specs.declared.orders.Side.{Side}
use Rattle.price_levels.specs.declared.keys.Key.{Key}
use Rattle.price_levels.specs.declared.keys.Level.{Level}
use Rattle.venue_model.specs.Orders.{opposite}
use Rattle.price_levels.specs.Keys.{same_key, key_crossed}
use Rattle.price_levels.specs.Arena.{holds, head_of, first_in, of_side, crossed_left, levels_with}
use Rattle.price_levels.specs.Ladders.{joined}
use Rattle.price_levels.proofs.LevelLists.{all-append}
use Rattle.price_levels.proofs.ShortenLemmas.{set-with}
use Rattle.price_levels.proofs.Groups.{head_in, first-head, of-is, crossed-of, false-if, not-both}
use Rattle.price_levels.proofs.KeyLemmas.{key-is}

pub joined-append : (xs ys : List (List Level)) → joined (xs ++ ys) ≡ joined xs ++ joined ys
joined-append [] ys = refl
joined-append (x ∷ xs) ys = ap (λ zs. x ++ zs) (joined-append xs ys) ∙ sym (append_assoc x (joined xs) (joined ys))

-- ahead of a ladder, the ladder, behind it
pub cut : (ladders : List (List Level)) (i : ℕ) → i < length ladders → joined ladders ≡ joined (take i ladders) ++
    (get_or ladders i [] ++ joined (drop (suc i) ladders))
cut [] i within = absurd (omega (arith, within))
cut (g ∷ gs) zero within = refl
cut (g ∷ gs) (suc i) within = ap (λ zs. g ++ zs) (cut gs i (omega (arith, within)))
    ∙ sym (append_assoc g (joined (take i gs)) (get_or gs i [] ++ joined (drop (suc i) gs)))

-- another ladder in its place
pub cut-set : (ladders : List (List Level)) (i : ℕ) (g : List Level) → i < length ladders
    → joined (slice_set ladders i g) ≡ joined
    (take i ladders) ++ (g ++ joined (drop (suc i) ladders))
cut-set ladders i g within = ap joined (set_split ladders i g within)
    ∙ joined-append (take i ladders) (g ∷ drop (suc i) ladders)

pub all-joined : (P : Level → Type 0) (ladders : List (List Level)) → ((n : ℕ) → n < length ladders → AllByRecursion P
    (get_or ladders n [])) → AllByRecursion P (joined ladders)
all-joined P [] each = tt
all-joined P (g ∷ gs) each = all-append P g (joined gs) (each 0 (omega arith))
    (all-joined P gs (λ n lt. each (suc n) (omega (arith, lt))))

-- a place in the ladder, among all
module _ (xs g zs : List Level) (j : ℕ) where
  abbrev row : List Level
  row = xs ++ (g ++ zs)

  pub take-at : j ≤ length g → take (length xs + j) row ≡ xs ++ take j g
  take-at le = take-append-add xs (g ++ zs) j ∙ ap (λ ys. xs ++ ys) (take-append-le j g zs le)

  pub drop-at : j ≤ length g → drop (length xs + j) row ≡ drop j g ++ zs
  drop-at le = drop-append-add xs (g ++ zs) j ∙ drop-append-le j g zs le

  pub get-at : (d : Level) → j < length g → get_or row (length xs + j) d ≡ get_or g j d
  get-at d lt = get_or-append-add xs (g ++ zs) j d ∙ get_or-append g zs d j lt

  pub on-row : j < length g → length xs + j < length row
  on-row lt =
      let whole = length-append xs (g ++ zs) in
      let parts = length-append g zs in
      omega (arith, whole, parts, lt)

  pub insert-at : (l : Level) → j ≤ length g → insert row (length xs + j) l ≡ xs ++ (insert g j l ++ zs)
  insert-at l le =
      ap (λ ys. ys ++ l ∷ drop (length xs + j) row) (take-at le)
      ∙ ap (λ ys. (xs ++ take j g) ++ l ∷ ys) (drop-at le)
      ∙ append_assoc xs (take j g) (l ∷ (drop j g ++ zs))
      ∙ ap (λ ys. xs ++ ys) (sym (append_assoc (take j g) (l ∷ drop j g) zs))

  drop-behind : j < length g → drop (length xs + j + 1) row ≡ drop (j + 1) g ++ zs
  drop-behind lt =
      let far : length xs + j + 1 ≡ length xs + (j + 1) = omega arith in
      ap (λ n. drop n row) far ∙ drop-append-add xs (g ++ zs) (j + 1) ∙ drop-append-le (j + 1) g zs (omega (arith, lt))

  pub with-at : (new : List Level) → j < length g → levels_with row (length xs + j) new
      ≡ xs ++ (levels_with g j new ++ zs)
  with-at new lt =
      ap (λ ys. ys ++ (new ++ drop (length xs + j + 1) row)) (take-at (omega (arith, lt)))
      ∙ ap (λ ys. (xs ++ take j g) ++ (new ++ ys)) (drop-behind lt)
      ∙ append_assoc xs (take j g) (new ++ (drop (j + 1) g ++ zs))
      ∙ ap (λ ys. xs ++ (take j g ++ ys)) (sym (append_assoc new (drop (j + 1) g) zs))
      ∙ ap (λ ys. xs ++ ys) (sym (append_assoc (take j g) (new ++ drop (j + 1) g) zs))

  pub set-at : (l : Level) → j < length g → slice_set row (length xs + j) l ≡ xs ++ (slice_set g j l ++ zs)
  set-at l lt = set-with row (length xs + j) l (on-row lt) ∙ with-at (l ∷ []) lt
      ∙ ap (λ ys. xs ++ (ys ++ zs)) (sym (set-with g j l lt))

-- what is read at a place is read from there on
holds-there : (levels : List Level) (at : ℕ) (k : Key) → holds levels at k ≡ holds (drop at levels) 0 k
holds-there [] zero k = refl
holds-there [] (suc at) k = refl
holds-there (l ∷ levels) zero k = refl
holds-there (l ∷ levels) (suc at) k = holds-there levels at k

-- levels that aren't of a symbol and side add nothing to those that are
module _ (symbol : List ℕ) (side : Side) where
  head-before : (ys zs : List Level) → AllByRecursion (λ (l : Level). of_side symbol side l.key ≡ false) zs
      → head_in symbol side (ys ++ zs) ≡
      head_in symbol side ys
  head-before [] [] none = refl
  head-before [] (z ∷ zs) none = ap (λ t. if t then Some (head_of z) else None) none.0
  head-before (y ∷ ys) zs none = refl

  pub first-row : (xs g zs : List Level) (j : ℕ) → j ≤ length g
      → AllByRecursion (λ (l : Level). of_side symbol side l.key ≡ false) zs →
      first_in symbol side (xs ++ (g ++ zs)) (length xs + j) ≡ first_in symbol side g j
  first-row xs g zs j le none =
      first-head symbol side (xs ++ (g ++ zs)) (length xs + j) ∙ ap (head_in symbol side) (drop-at xs g zs j le)
      ∙ head-before (drop j g) zs none ∙ sym (first-head symbol side g j)

  pub holds-row : (k : Key) → k.symbol ≡ symbol → k.side ≡ side → (xs g zs : List Level) (j : ℕ) → j ≤ length g →
      AllByRecursion (λ (l : Level). of_side symbol side l.key ≡ false) zs
      → holds (xs ++ (g ++ zs)) (length xs + j) k ≡ holds g j k
  holds-row k symbols sides xs g zs j le none =
      holds-there (xs ++ (g ++ zs)) (length xs + j) k ∙ ap (λ ys. holds ys 0 k) (drop-at xs g zs j le)
      ∙ over (drop j g) zs none ∙ sym (holds-there g j k)
    where
      over : (ys zs : List Level) → AllByRecursion (λ (l : Level). of_side symbol side l.key ≡ false) zs
          → holds (ys ++ zs) 0 k ≡ holds ys 0 k
      over [] [] none = refl
      over [] (z ∷ zs) none = false-if (same_key z.key k)
          (λ same. not-both (of_side symbol side z.key) (of-is symbol side z.key
          (ap (λ (i : Key). i.symbol) (key-is z.key k same) ∙ symbols)
          (ap (λ (i : Key). i.side) (key-is z.key k same) ∙ sides)) none.0)
      over (y ∷ ys) zs none = refl

  -- a level of theirs that stands at a place of the ladder, or behind its last, is on it
  pub on-ladder : (xs g zs : List Level) (j : ℕ) (l : Level) → j ≤ length g
      → AllByRecursion (λ (m : Level). of_side symbol side m.key ≡ false)
      zs → length xs + j < length (xs ++ (g ++ zs)) → l ≡ get_or (xs ++ (g ++ zs)) (length xs + j) l
      → l.key.symbol ≡ symbol →
      l.key.side ≡ side → j < length g
  on-ladder xs g zs j l le none within is symbols sides = elim (cases_lt j (length g)) [
    | inl lt ↦ lt
    | inr ge ↦
        let row = xs ++ (g ++ zs) in
        let rest : zs ≡ l ∷ drop (suc (length xs + j)) row = sym (ap (λ ys. ys ++ zs) (drop_all j g ge))
        ∙ sym (drop-at xs g zs j le)
        ∙ drop-cons row (length xs + j) l within ∙ ap (λ y. y ∷ drop (suc (length xs + j)) row) (sym is) in
        let none_here : of_side symbol side l.key ≡ false =
        (subst (AllByRecursion (λ (m : Level). of_side symbol side m.key ≡ false)) rest none).0 in
        absurd (not-both (of_side symbol side l.key) (of-is symbol side l.key symbols sides) none_here)
  ]

-- what is crossed ends with the ladder of the other side
pub crossed-row : (symbol : List ℕ) (side : Side) (price : ℕ) (ys zs : List Level) → AllByRecursion (λ
    (l : Level). of_side symbol (opposite side) l.key ≡ false) zs
    → crossed_left symbol side price (ys ++ zs) ≡ crossed_left symbol side price ys
crossed-row symbol side price [] [] none = refl
crossed-row symbol side price [] (z ∷ zs) none = ap (λ t. if t then z.left + crossed_left symbol side price zs else 0)
    (false-if (key_crossed symbol side price z.key)
    (λ c. not-both (of_side symbol (opposite side) z.key) (crossed-of symbol side price z.key c)
    none.0))
crossed-row symbol side price (y ∷ ys) zs none = ap (λ n. if key_crossed symbol side price y.key then y.left + n else 0)
    (crossed-row symbol side price ys zs none)
