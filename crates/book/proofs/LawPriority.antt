-- While an order is left with something, none behind it is filled.
use Rattle.std.proofs.Common.{◌≡◌, ◌⊎◌, inl, inr, ℕ, zero, suc, ◌+◌, ◌<◌, ◌≤◌, Bool, true, false, ◌&&◌, ◌||◌, nat_eq}
use Rattle.std.proofs.Common.{nat_lt, List, [], ◌∷◌, ◌++◌, length, refl, ap, sym, subst, ◌∙◌, arith}
use Rattle.std.specs.Prelude.{sum_by, filter, if◌then◌else◌, slice_index_or}
use Rattle.std.specs.List.{AllByRecursion, Contains}
use Rattle.std.specs.Str.{bytes_eq}
use Rattle.std.proofs.lemmas.List.Sums.{sum_by-append, sum_by-cons}
use Rattle.std.proofs.lemmas.List.Elements.{filter-append}
use Rattle.std.proofs.lemmas.Bool.{and_from, and_parts}
use Rattle.std.proofs.lemmas.Bool.Decides.{nat_tests}
use Rattle.venue_model.specs.declared.orders.Side.{Side}
use Rattle.venue_model.specs.declared.orders.Side.TheVariants.{Buy, Sell}
use Rattle.venue_model.specs.declared.orders.Order.{Order}
use Rattle.venue_model.specs.Orders.{leaves, is_live, crosses, meets, is_better, ahead}
use Rattle.venue_model.specs.Match.{crossing, fill, leaves_ahead, filled, after_fill, settled}
use Rattle.book.proofs.Lists.{filter-in, filter-out, each-of, each-passes, sum-middle}
use Rattle.book.proofs.Sides.{ahead-self, leads-trans, one-side}
use Rattle.book.proofs.Passes.{filled-none}

-- more pass a weaker test, and their sum is no less
sum-weaker : (f : Order → ℕ) (p q : Order → Bool) (xs : List Order) → AllByRecursion (λ x. p x ≡ true → q x ≡ true) xs →
    sum_by f (filter p xs) ≤ sum_by f (filter q xs)
sum-weaker f p q [] all = omega arith
sum-weaker f p q (x ∷ xs) all =
    let more : sum_by f (filter p xs) ≤ sum_by f (filter q xs) = sum-weaker f p q xs all.1 in
    let with_p = sum_by-cons f x (filter p xs) in
    let with_q = sum_by-cons f x (filter q xs) in
    elim (p x) as (λ b. (b ≡ true → q x ≡ true) → sum_by f (if b then x ∷ filter p xs else filter p xs)
    ≤ sum_by f (if q x then x ∷ filter q xs else filter q xs)) [
      | true ↦ λ h. subst (λ b. sum_by f (x ∷ filter p xs) ≤ sum_by f (if b then x ∷ filter q xs else filter q xs))
          (sym (h refl)) (omega (arith, more, with_p, with_q))
      | false ↦ λ h. elim (q x) as (λ b. sum_by f (filter p xs) ≤ sum_by f (if b then x ∷ filter q xs else filter q xs))
          [ true ↦ omega (arith, more, with_q) | false ↦ more ]
    ] all.0

-- an order of a queue of one side stands ahead of another: so does what stands ahead of it, and what it has left itself
module _ (us vs : List Order) (o x : Order) (leads : ahead o x ≡ true)
    (before : AllByRecursion (λ y. ahead y o ≡ true → ahead y x ≡ true) us)
    (behind : AllByRecursion (λ y. ahead y o ≡ true → ahead y x ≡ true) vs) where
  more-ahead : leaves_ahead (us ++ o ∷ vs) o + leaves o ≤ leaves_ahead (us ++ o ∷ vs) x
  more-ahead =
      let of_o : filter (λ y. ahead y o) (us ++ o ∷ vs) ≡ filter (λ y. ahead y o) (us ++ vs) =
      filter-out (λ y. ahead y o) us vs o (ahead-self o) in
      let same_o : leaves_ahead (us ++ o ∷ vs) o ≡ sum_by leaves (filter (λ y. ahead y o) us)
      + sum_by leaves (filter (λ y. ahead y o) vs) =
      ap (sum_by leaves) (of_o ∙ filter-append (λ y. ahead y o) us vs)
      ∙ sum_by-append leaves (filter (λ y. ahead y o) us) (filter (λ y. ahead y o) vs) in
      let same_x : leaves_ahead (us ++ o ∷ vs) x ≡ leaves o
      + (sum_by leaves (filter (λ y. ahead y x) us) + sum_by leaves (filter (λ y. ahead y x) vs)) =
      ap (sum_by leaves) (filter-in (λ y. ahead y x) us vs o leads)
      ∙ sum-middle leaves (filter (λ y. ahead y x) us) (filter (λ y. ahead y x) vs) o
      ∙ ap (λ n. leaves o + n) (sum_by-append leaves (filter (λ y. ahead y x) us) (filter (λ y. ahead y x) vs)) in
      let front = sum-weaker leaves (λ y. ahead y o) (λ y. ahead y x) us before in
      let back = sum-weaker leaves (λ y. ahead y o) (λ y. ahead y x) vs behind in
      omega (arith, same_o, same_x, front, back)

  filled-whole : (q : ℕ) → 0 < fill q (us ++ o ∷ vs) x → fill q (us ++ o ∷ vs) o ≡ leaves o
  filled-whole q gets = omega (arith, more-ahead, gets)

module _ {X : Type 0} where
  -- an element of a list, and what stands before and behind it
  pub record Split (xs : List X) (x : X) : Type 0 where
    pub before : List X
    pub behind : List X
    pub whole : xs ≡ before ++ x ∷ behind

  pub split-at : (xs : List X) (x : X) → Contains xs x → Split xs x
  split-at xs x there = at xs there.0 there.1 there.2
    where
      at : (ys : List X) (k : ℕ) → k < length ys → slice_index_or ys k x ≡ x → Split ys x
      at [] k within is = absurd (omega (arith, within))
      at (y ∷ ys) zero within is = record { before = []; behind = ys; whole = ap (λ z. z ∷ ys) is }
      at (y ∷ ys) (suc k) within is =
          let more : Split ys x = at ys k (omega (arith, within)) is in
          record { before = y ∷ more.before; behind = more.behind; whole = ap (λ zs. y ∷ zs) more.whole }

-- CROSSED ORDERS

module _ (i : Order) where
  -- what is ahead of a crossed order is ahead of the crossed orders behind it
  still-ahead : (o x y : Order) → crosses i o ≡ true → crosses i x ≡ true → ahead o x ≡ true → crosses i y ≡ true
      → ahead y o ≡ true → ahead y x ≡ true
  still-ahead o x y crossed_o crossed_x leads crossed_y ahead_y =
      let trails = leads-trans y o x (one-side i y o crossed_y crossed_o) (one-side i o x crossed_o crossed_x) ahead_y
      leads in
      trails.ahead_of

  pub priority : (orders : List Order) (o x : Order) → Contains orders o → crosses i o ≡ true → crosses i x ≡ true
      → ahead o x ≡ true →
      (q : ℕ) → 0 < fill q (crossing i orders) x → fill q (crossing i orders) o ≡ leaves o
  priority orders o x there crossed_o crossed_x leads q gets =
      let split : Split orders o = split-at orders o there in
      let us : List Order = filter (crosses i) split.before in
      let vs : List Order = filter (crosses i) split.behind in
      let queue : crossing i orders ≡ us ++ o ∷ vs = ap (filter (crosses i)) split.whole
      ∙ filter-in (crosses i) split.before split.behind o crossed_o in
      let keeps : (ys : List Order) → AllByRecursion (λ y. ahead y o ≡ true → ahead y x ≡ true)
      (filter (crosses i) ys) =
      λ ys. each-passes (λ y. ahead y o ≡ true → ahead y x ≡ true) (crosses i) ys
      (each-of (λ y. crosses i y ≡ true → ahead y o ≡ true → ahead y x ≡ true)
      (λ y. still-ahead o x y crossed_o crossed_x leads) ys) in
      ap (λ os. fill q os o) queue
      ∙ filled-whole us vs o x leads (keeps split.before) (keeps split.behind) q
      (subst (λ os. 0 < fill q os x) queue gets)

-- IN THE TRADER'S WORDS

-- a price that is met, is met by one that is no worse for it
meets-better : (side : Side) (p : ℕ) (other : Side) (r s q t : ℕ)
    → (is_better other r q || (nat_eq r q && nat_lt s t)) ≡ true →
    meets side p other q ≡ true → meets side p other r ≡ true
meets-better Buy p Sell r s q t leads h = grind (arith, nat_tests)
meets-better Sell p Buy r s q t leads h = grind (arith, nat_tests)
meets-better Buy p Buy r s q t leads h = cc
meets-better Sell p Sell r s q t leads h = cc

-- an order ahead of a crossed one of its symbol and side is crossed too
crossed-ahead : (i o x : Order) → o.symbol ≡ x.symbol → o.side ≡ x.side → ahead o x ≡ true → crosses i x ≡ true
    → crosses i o ≡ true
crossed-ahead i o x symbol side leads h =
    let both = and_parts (bytes_eq i.symbol x.symbol) (meets i.side i.price x.side x.price) h in
    and_from (bytes_eq i.symbol o.symbol) (meets i.side i.price o.side o.price) (ap (bytes_eq i.symbol) symbol ∙ both.0)
    (meets-better i.side i.price o.side o.price o.stamp x.price x.stamp leads
    (ap (λ s. meets i.side i.price s x.price) side ∙ both.1))

none-left : (o : Order) (n p : ℕ) → n ≡ leaves o → is_live (filled o n p) ≡ false
none-left o n p whole = grind (arith, nat_tests)

either : (n : ℕ) → (n ≡ 0) ⊎ (0 < n)
either zero = inl refl
either (suc n) = inr (omega arith)

-- while something is left of an order, those behind it stay as they were
pub behind-waits : (i : Order) (orders : List Order) (o x : Order) → Contains orders o → o.symbol ≡ x.symbol
    → o.side ≡ x.side → ahead o x ≡ true →
    is_live (settled i (crossing i orders) o) ≡ true → settled i (crossing i orders) x ≡ x
behind-waits i orders o x there symbol side leads live = elim (crosses i x) as
    (λ b. crosses i x ≡ b → (if b then after_fill (leaves i) (crossing i orders) x else x) ≡ x) [
      | true ↦ λ h. unfilled h (crossed-ahead i o x symbol side leads h)
          (either (fill (leaves i) (crossing i orders) x))
      | false ↦ λ h. refl
    ] refl
  where
    unfilled : crosses i x ≡ true → crosses i o ≡ true →
        (fill (leaves i) (crossing i orders) x ≡ 0) ⊎ (0 < fill (leaves i) (crossing i orders) x)
        → after_fill (leaves i) (crossing i orders) x ≡ x
    unfilled h k (inl none) = filled-none x (fill (leaves i) (crossing i orders) x) x.price none
    unfilled h k (inr gets) =
        let whole : fill (leaves i) (crossing i orders) o ≡ leaves o =
        priority i orders o x there k h leads (leaves i) gets in
        let after : settled i (crossing i orders) o ≡ after_fill (leaves i) (crossing i orders) o =
        ap (λ b. if b then after_fill (leaves i) (crossing i orders) o else o) k in
        let gone : is_live (settled i (crossing i orders) o) ≡ false =
        ap is_live after ∙ none-left o (fill (leaves i) (crossing i orders) o) o.price whole in
        let never : true ≡ false = sym live ∙ gone in cc
