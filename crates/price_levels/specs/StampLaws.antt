-- Laws on the list by stamps, for a book that keeps its orders at places.
use Rattle.std.proofs.Common.{◌≡◌, ℕ, zero, suc, ◌+◌, ◌<◌, ◌≤◌, ◌⊎◌, inl, inr, Bool, true, false, List, [], ◌∷◌, ◌++◌, length, Option, Some, None, refl, ap, sym, subst, ◌∙◌, arith, append-nil}
use Rattle.std.specs.Prelude.{◌≢◌, nat_lt, slice_set, sum_by, filter, if◌then◌else◌}
use Rattle.std.specs.List.{AllByRecursion}
use Rattle.std.proofs.lemmas.Bool.Decides.{nat_tests}
use Rattle.std.proofs.lemmas.List.Sums.{sum_by-cons}
use Rattle.venue_model.specs.declared.orders.Order.{Order}
use Rattle.venue_model.specs.Orders.{leaves}
use Rattle.price_levels.specs.Places.{Places, at, StandsAt, standing}
use Rattle.price_levels.specs.Stamps.{insert_by_stamp, by_stamp, SeatedByStamp, InStamps, Comes}

-- it is earlier, or not
earlier : (a b : ℕ) → nat_lt a b ≡ true → a < b
earlier a b h = grind (arith, nat_tests, h)

not-earlier : (a b : ℕ) → nat_lt a b ≡ false → b ≤ a
not-earlier a b h = grind (arith, nat_tests, h)

is-earlier : (a b : ℕ) → a < b → nat_lt a b ≡ true
is-earlier a b h = grind (arith, nat_tests, h)

isnt-earlier : (a b : ℕ) → b ≤ a → nat_lt a b ≡ false
isnt-earlier a b h = grind (arith, nat_tests, h)

-- where one is put in, by whether it is earlier than the first
put-first : (o x : Order) (xs : List Order) → o.stamp < x.stamp → insert_by_stamp o (x ∷ xs) ≡ o ∷ x ∷ xs
put-first o x xs lt = ap (λ t. if t then o ∷ x ∷ xs else x ∷ insert_by_stamp o xs) (is-earlier o.stamp x.stamp lt)

put-later : (o x : Order) (xs : List Order) → x.stamp ≤ o.stamp → insert_by_stamp o (x ∷ xs) ≡ x ∷ insert_by_stamp o xs
put-later o x xs le = ap (λ t. if t then o ∷ x ∷ xs else x ∷ insert_by_stamp o xs) (isnt-earlier o.stamp x.stamp le)

module _ (P : Order → Type 0) where
  each-put : (o : Order) (xs : List Order) → P o → AllByRecursion P xs → AllByRecursion P (insert_by_stamp o xs)
  each-put o [] this all = (this, tt)
  each-put o (x ∷ xs) this all = elim (nat_lt o.stamp x.stamp) as (λ t. AllByRecursion P
      (if t then o ∷ x ∷ xs else x ∷ insert_by_stamp o xs))
      [ true ↦ (this, all) | false ↦ (all.0, each-put o xs this all.1) ]

  put-each : (o : Order) (xs : List Order) → AllByRecursion P (insert_by_stamp o xs) → P o × AllByRecursion P xs
  put-each o [] all = (all.0, tt)
  put-each o (x ∷ xs) all = elim (nat_lt o.stamp x.stamp) as (λ t. AllByRecursion P
      (if t then o ∷ x ∷ xs else x ∷ insert_by_stamp o xs) → P o × AllByRecursion P (x ∷ xs))
      [ true ↦ λ h. (h.0, h.1) | false ↦ λ h. let rest = put-each o xs h.1 in (rest.0, (h.0, rest.1)) ] all

  -- what holds of the order at each place holds of each in the list, and the other way round
  pub each-listed : (places : Places) → ((p : ℕ) (o : Order) → StandsAt places p o → P o) → AllByRecursion P (by_stamp places)
  each-listed [] all = tt
  each-listed (None ∷ places) all = each-listed places (λ p o is. all (suc p) o is)
  each-listed (Some o ∷ places) all = each-put o (by_stamp places) (all 0 o refl) (each-listed places (λ p x is. all (suc p) x is))

  pub each-stands : (places : Places) → AllByRecursion P (by_stamp places) → (p : ℕ) (o : Order) → StandsAt places p o → P o
  each-stands [] all p o is = absurd (let e : None ≡ Some o = is in cc)
  each-stands (None ∷ places) all zero o is = absurd (let e : None ≡ Some o = is in cc)
  each-stands (None ∷ places) all (suc p) o is = each-stands places all p o is
  each-stands (Some x ∷ places) all zero o is = let same : x ≡ o = let e : Some x ≡ Some o = is in cc in subst P same (put-each x
      (by_stamp places) all).0
  each-stands (Some x ∷ places) all (suc p) o is = each-stands places (put-each x (by_stamp places) all).1 p o is

  each-first : (xs ys : List Order) → AllByRecursion P (xs ++ ys) → AllByRecursion P xs
  each-first [] ys all = tt
  each-first (x ∷ xs) ys all = (all.0, each-first xs ys all.1)

  each-last : (xs ys : List Order) → AllByRecursion P (xs ++ ys) → AllByRecursion P ys
  each-last [] ys all = all
  each-last (x ∷ xs) ys all = each-last xs ys all.1

each-weaker : (m n : ℕ) (xs : List Order) → m ≤ n → AllByRecursion (λ x. n ≤ x.stamp) xs → AllByRecursion (λ x. m ≤ x.stamp) xs
each-weaker m n [] le all = tt
each-weaker m n (x ∷ xs) le all = (let here = all.0 in omega (arith, le, here), each-weaker m n xs le all.1)

put-in-stamps : (o : Order) (xs : List Order) → InStamps xs → InStamps (insert_by_stamp o xs)
put-in-stamps o [] order = (tt, tt)
put-in-stamps o (x ∷ xs) order = elim (nat_lt o.stamp x.stamp) as (λ t. nat_lt o.stamp x.stamp ≡ t → InStamps
    (if t then o ∷ x ∷ xs else x ∷ insert_by_stamp o xs)) [
      | true ↦ λ h. let le : o.stamp ≤ x.stamp = (let lt = earlier o.stamp x.stamp h in omega (arith, lt)) in
          ((le, each-weaker o.stamp x.stamp xs le order.0), order)
      | false ↦ λ h. (each-put (λ y. x.stamp ≤ y.stamp) o xs (not-earlier o.stamp x.stamp h) order.0, put-in-stamps o xs order.1)
    ] refl

pub listed-in_stamps : (places : Places) → InStamps (by_stamp places)
listed-in_stamps [] = tt
listed-in_stamps (None ∷ places) = listed-in_stamps places
listed-in_stamps (Some o ∷ places) = put-in-stamps o (by_stamp places) (listed-in_stamps places)

-- a place in a list: those behind it aren't earlier
record Put (o : Order) (xs : List Order) : Type 0 where
  pub before : List Order
  pub behind : List Order
  pub split : xs ≡ before ++ behind
  pub later : AllByRecursion (λ x. o.stamp ≤ x.stamp) behind
  pub put : (y : Order) → y.stamp ≡ o.stamp → insert_by_stamp y xs ≡ before ++ y ∷ behind

put : (o : Order) (xs : List Order) → InStamps xs → Put o xs
put o [] order = record { before = []; behind = []; split = refl; later = tt; put = λ y same. refl }
put o (x ∷ xs) order = elim (nat_lt o.stamp x.stamp) as (λ t. nat_lt o.stamp x.stamp ≡ t → Put o (x ∷ xs)) [
  | true ↦ λ h.
      let lt = earlier o.stamp x.stamp h in
      let le : o.stamp ≤ x.stamp = omega (arith, lt) in
      record {
        before = [];
        behind = x ∷ xs;
        split = refl;
        later = (le, each-weaker o.stamp x.stamp xs le order.0);
        put = λ y same. put-first y x xs (omega (arith, lt, same));
      }
  | false ↦ λ h.
      let le = not-earlier o.stamp x.stamp h in
      let rest = put o xs order.1 in
      record {
        before = x ∷ rest.before;
        behind = rest.behind;
        split = ap (λ zs. x ∷ zs) rest.split;
        later = rest.later;
        put = λ y same. put-later y x xs (omega (arith, le, same)) ∙ ap (λ zs. x ∷ zs) (rest.put y same);
      }
] refl

-- another order is put into a list with one in the middle: the middle one, or any of its stamp, or none, makes no difference
record Around (x o : Order) (before behind : List Order) : Type 0 where
  pub front : List Order
  pub back : List Order
  pub later : AllByRecursion (λ z. o.stamp ≤ z.stamp) back
  pub without : insert_by_stamp x (before ++ behind) ≡ front ++ back
  pub with : (y : Order) → y.stamp ≡ o.stamp → insert_by_stamp x (before ++ y ∷ behind) ≡ front ++ y ∷ back

ahead-of : (x : Order) (n : ℕ) (xs : List Order) → x.stamp < n → AllByRecursion (λ z. n ≤ z.stamp) xs → insert_by_stamp x xs ≡ x ∷ xs
ahead-of x n [] lt all = refl
ahead-of x n (z ∷ xs) lt all = let le = all.0 in put-first x z xs (omega (arith, lt, le))

around : (x o : Order) (before behind : List Order) → AllByRecursion (λ z. o.stamp ≤ z.stamp) behind →
    Around x o before behind
around x o [] behind later = elim (nat_lt x.stamp o.stamp) as (λ t. nat_lt x.stamp o.stamp ≡ t → Around x o [] behind) [
  | true ↦ λ h.
      let lt = earlier x.stamp o.stamp h in
      record {
        front = x ∷ [];
        back = behind;
        later = later;
        without = ahead-of x o.stamp behind lt later;
        with = λ y same. put-first x y behind (omega (arith, lt, same));
      }
  | false ↦ λ h.
      let le = not-earlier x.stamp o.stamp h in
      record {
        front = [];
        back = insert_by_stamp x behind;
        later = each-put (λ z. o.stamp ≤ z.stamp) x behind le later;
        without = refl;
        with = λ y same. put-later x y behind (omega (arith, le, same));
      }
] refl
around x o (z ∷ before) behind later = elim (nat_lt x.stamp z.stamp) as (λ t. nat_lt x.stamp z.stamp ≡ t → Around x o
    (z ∷ before) behind) [
      | true ↦ λ h.
          let lt = earlier x.stamp z.stamp h in
          record {
            front = x ∷ z ∷ before;
            back = behind;
            later = later;
            without = put-first x z (before ++ behind) lt;
            with =
                λ y same. put-first x z (before ++ y ∷ behind) lt;
          }
      | false ↦ λ h.
          let le = not-earlier x.stamp z.stamp h in
          let rest = around x o before behind later in
          record {
            front = z ∷ rest.front;
            back = rest.back;
            later = rest.later;
            without = put-later x z (before ++ behind) le ∙ ap (λ zs. z ∷ zs) rest.without;
            with = λ y same. put-later x z (before ++ y ∷ behind) le ∙ ap (λ zs. z ∷ zs) (rest.with y same);
          }
    ] refl

-- with what is known on the way
record Sits (places : Places) (p : ℕ) (o : Order) : Type 0 where
  pub before : List Order
  pub behind : List Order
  pub later : AllByRecursion (λ z. o.stamp ≤ z.stamp) behind
  pub without : by_stamp (slice_set places p None) ≡ before ++ behind
  pub with : (y : Order) → y.stamp ≡ o.stamp → by_stamp (slice_set places p (Some y)) ≡ before ++ y ∷ behind

sits : (places : Places) (p : ℕ) (o : Order) → p < length places → Sits places p o
sits [] p o within = absurd (omega (arith, within))
sits (None ∷ places) zero o within =
    let here = put o (by_stamp places) (listed-in_stamps places) in
    record { before = here.before; behind = here.behind; later = here.later; without = here.split; with = here.put }
sits (Some x ∷ places) zero o within =
    let here = put o (by_stamp places) (listed-in_stamps places) in
    record { before = here.before; behind = here.behind; later = here.later; without = here.split; with = here.put }
sits (None ∷ places) (suc p) o within =
    let rest = sits places p o (omega (arith, within)) in
    record { before = rest.before; behind = rest.behind; later = rest.later; without = rest.without; with = rest.with }
sits (Some x ∷ places) (suc p) o within =
    let rest = sits places p o (omega (arith, within)) in
    let put = around x o rest.before rest.behind rest.later in
    record {
      before = put.front;
      behind = put.back;
      later = put.later;
      without = ap (insert_by_stamp x) rest.without ∙ put.without;
      with = λ y same. ap (insert_by_stamp x) (rest.with y same) ∙ put.with y same;
    }

set-itself : (places : Places) (p : ℕ) (v : Option Order) → at places p ≡ v → slice_set places p v ≡ places
set-itself [] p v is = refl
set-itself (x ∷ places) zero v is = ap (λ y. y ∷ places) (sym is)
set-itself (x ∷ places) (suc p) v is = ap (λ ys. x ∷ ys) (set-itself places p v is)

-- the order of a place, in the list
pub seated : (places : Places) (p : ℕ) (o : Order) → p < length places → StandsAt places p o → SeatedByStamp places p o
seated places p o within is =
    let here = sits places p o within in
    record {
      before = here.before;
      behind = here.behind;
      split = ap by_stamp (sym (set-itself places p (Some o) is)) ∙ here.with o refl;
      without = here.without;
      changed = here.with;
    }

-- what holds of all other orders holds of those before it and behind it
unset : (places : Places) (p q : ℕ) (x : Order) → StandsAt (slice_set places p None) q x → (q ≢ p) × StandsAt places q x
unset [] p q x is = absurd (let e : None ≡ Some x = is in cc)
unset (y ∷ places) zero zero x is = absurd (let e : None ≡ Some x = is in cc)
unset (y ∷ places) zero (suc q) x is = ((λ e. let f : suc q ≡ 0 = e in omega (arith, f)), is)
unset (y ∷ places) (suc p) zero x is = ((λ e. let f : 0 ≡ suc p = e in omega (arith, f)), is)
unset (y ∷ places) (suc p) (suc q) x is = let rest = unset places p q x is in (
  (λ e. rest.0 (let f : suc q ≡ suc p = e in omega
      (arith, f))),
  rest.1,
)

pub others : (P : Order → Type 0) (places : Places) (p : ℕ) (o : Order) (seat : SeatedByStamp places p o) → ((q : ℕ) (x : Order) → q ≢ p →
    StandsAt places q x → P x) →
    AllByRecursion P seat.before × AllByRecursion P seat.behind
others P places p o seat all =
    let rest = subst (AllByRecursion P) seat.without (each-listed P (slice_set places p None)
    (λ q x is. let there = unset places p q x is in all q x there.0 there.1)) in
    (each-first P seat.before seat.behind rest, each-last P seat.before seat.behind rest)

-- an order comes to a free place
pub comes : (places : Places) (p : ℕ) (o : Order) → p < length places → at places p ≡ None →
    Comes o (by_stamp places) (by_stamp (slice_set places p (Some o)))
comes places p o within free =
    let here = sits places p o within in
    record {
      before = here.before;
      behind = here.behind;
      split = ap by_stamp (sym (set-itself places p None free)) ∙ here.without;
      put = here.with o refl;
      later = here.later;
    }

-- the latest one is the last in the list
none-behind : (o : Order) (xs : List Order) → AllByRecursion (λ x. o.stamp ≤ x.stamp) xs →
    AllByRecursion (λ x. x.stamp < o.stamp) xs → xs ≡ []
none-behind o [] later earlier = refl
none-behind o (x ∷ xs) later earlier = let le = later.0 in let lt = earlier.0 in absurd (omega (arith, le, lt))

pub comes-last : (o : Order) (old new : List Order) → Comes o old new → AllByRecursion (λ x. x.stamp < o.stamp) old →
    new ≡ old ++ o ∷ []
comes-last o old new it earlier =
    let none = none-behind o it.behind it.later (each-last (λ x. x.stamp < o.stamp) it.before it.behind
    (subst (AllByRecursion (λ x. x.stamp < o.stamp)) it.split earlier)) in
    let all : old ≡ it.before = it.split ∙ ap (λ xs. it.before ++ xs) none ∙ append-nil it.before in
    it.put ∙ ap (λ xs. it.before ++ o ∷ xs) none ∙ ap (λ xs. xs ++ o ∷ []) (sym all)

-- the list has the orders that stand
length-put : (o : Order) (xs : List Order) → length (insert_by_stamp o xs) ≡ suc (length xs)
length-put o [] = refl
length-put o (x ∷ xs) = elim (nat_lt o.stamp x.stamp) as (λ t. length (if t then o ∷ x ∷ xs else x ∷ insert_by_stamp o xs) ≡ suc (suc
    (length xs)))
    [ true ↦ refl | false ↦ ap suc (length-put o xs) ]

pub length-listed : (places : Places) → length (by_stamp places) ≡ length (standing places)
length-listed [] = refl
length-listed (None ∷ places) = length-listed places
length-listed (Some o ∷ places) = length-put o (by_stamp places) ∙ ap suc (length-listed places)

module _ (t : Order → Bool) where
  abbrev left : List Order → ℕ
  left xs = sum_by leaves (filter t xs)

  left-cons : (x : Order) (xs : List Order) → left (x ∷ xs) ≡ (if t x then leaves x else 0) + left xs
  left-cons x xs = elim (t x) as (λ b. sum_by leaves (if b then x ∷ filter t xs else filter t xs) ≡ (if b then leaves x else 0) + left xs)
      [ true ↦ sum_by-cons leaves x (filter t xs) | false ↦ omega arith ]

  left-put : (o : Order) (xs : List Order) → left (insert_by_stamp o xs) ≡ (if t o then leaves o else 0) + left xs
  left-put o [] = left-cons o []
  left-put o (x ∷ xs) = elim (nat_lt o.stamp x.stamp) as (λ b. left (if b then o ∷ x ∷ xs else x ∷ insert_by_stamp o xs) ≡
      (if t o then leaves o else 0) + left (x ∷ xs)) [
        | true ↦ left-cons o (x ∷ xs)
        | false ↦
            let rest = left-put o xs in
            let with = left-cons x (insert_by_stamp o xs) in
            let before = left-cons x xs in
            omega (arith, rest, with, before)
      ]

  -- what those of them have left that pass a test is the same in either order
  pub left-listed : (places : Places) → sum_by leaves (filter t (by_stamp places)) ≡ sum_by leaves (filter t (standing places))
  left-listed [] = refl
  left-listed (None ∷ places) = left-listed places
  left-listed (Some o ∷ places) =
      let rest = left-listed places in
      let put = left-put o (by_stamp places) in
      let cons = left-cons o (standing places) in
      omega (arith, rest, put, cons)

-- an order stands within the places
pub is-within : (places : Places) (p : ℕ) (o : Order) → StandsAt places p o → p < length places
is-within [] p o is = absurd (let e : None ≡ Some o = is in cc)
is-within (x ∷ places) zero o is = omega arith
is-within (x ∷ places) (suc p) o is = let rest = is-within places p o is in omega (arith, rest)

-- what stands once a place is set: what was put there, or what stood
pub at-set : (places : Places) (p q : ℕ) (v : Option Order) (x : Order) → StandsAt (slice_set places p v) q x →
    ((q ≡ p) × (v ≡ Some x)) ⊎ ((q ≢ p) × StandsAt places q x)
at-set [] p q v x is = absurd (let e : None ≡ Some x = is in cc)
at-set (y ∷ places) zero zero v x is = inl (refl, is)
at-set (y ∷ places) zero (suc q) v x is = inr ((λ e. let f : suc q ≡ 0 = e in omega (arith, f)), is)
at-set (y ∷ places) (suc p) zero v x is = inr ((λ e. let f : 0 ≡ suc p = e in omega (arith, f)), is)
at-set (y ∷ places) (suc p) (suc q) v x is = elim (at-set places p q v x is) [
  | inl here ↦ inl (ap suc here.0, here.1)
  | inr there ↦ inr ((λ e. there.0 (let f : suc q ≡ suc p = e in omega (arith, f))), there.1)
]
