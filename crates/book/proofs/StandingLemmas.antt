-- What stands in the book's list, behind a fill, with orders taken out, and with one more at the end.
use Rattle.std.proofs.Common.{◌≡◌, ℕ, suc, ◌+◌, ◌<◌, ◌≤◌, Bool, true, false, List, [], ◌∷◌, ◌++◌, length, refl, sym}
use Rattle.std.proofs.Common.{◌∙◌}
use Rattle.std.proofs.Common.{subst, arith, length-append}
use Rattle.std.specs.Prelude.{if◌then◌else◌, filter}
use Rattle.std.specs.List.{AllByRecursion}
use Rattle.std.proofs.lemmas.Bool.Decides.{nat_tests}
use Rattle.venue_model.specs.declared.orders.Order.{Order}
use Rattle.venue_model.specs.declared.commands.TimeInForce.TheVariants.{Day}
use Rattle.venue_model.specs.Orders.{is_live}
use Rattle.venue_model.specs.Match.{live_alone}
use Rattle.price_levels.specs.Places.{InOneLevel}
use Rattle.book.specs.Standing.{InRange, Rests, Below, IsEarlier, InTime, IsBookList}
use Rattle.book.specs.Commands.{MayComeIn}
use Rattle.book.proofs.Lists.{each-append, each-map, each-filter}
use Rattle.book.proofs.LawPairs.{pairs-filter, pairs-push}

-- of an order of which something is left
rests-live : (o : Order) → is_live o ≡ true → o.is_market ≡ false → InRange o → Rests o
rests-live o live limit in_range = record { live = grind (arith, nat_tests); limit = limit; in_range = in_range }

length-alone : (o : Order) → length (live_alone o) ≤ 1
length-alone o = elim (is_live o) as (λ b. length (if b then o ∷ [] else []) ≤ 1)
    [ true ↦ omega arith | false ↦ omega arith ]

-- one order may take another's place: it is of its level and stamp, and has a price where that one has
pub record SamePlace (old new : Order) : Type 0 where
  pub level : InOneLevel old new
  pub stamp : new.stamp ≡ old.stamp
  pub market : new.is_market ≡ old.is_market

-- one order instead of another, where something is left of it: what holds of each still holds, if it holds of that one
module _ (o o' : Order) where
  pub each-instead : (P : Order → Type 0) (xs ys : List Order) → (is_live o' ≡ true → P o → P o') →
      AllByRecursion P (xs ++ o ∷ ys) → AllByRecursion P (xs ++ (live_alone o' ++ ys))
  each-instead P [] ys keeps all = elim (is_live o') as (λ b. is_live o' ≡ b
      → AllByRecursion P ((if b then o' ∷ [] else []) ++ ys))
      [ true ↦ λ live. (keeps live all.0, all.1) | false ↦ λ gone. all.1 ] refl
  each-instead P (x ∷ xs) ys keeps all = (all.0, each-instead P xs ys keeps all.1)

  earlier-instead : SamePlace o o' → (x : Order) → IsEarlier o x → IsEarlier o' x
  earlier-instead same x earlier = λ its. subst (λ s. s < x.stamp) (sym same.stamp) (earlier (record {
    symbol = its.symbol ∙ same.level.symbol;
    side = its.side ∙ same.level.side;
    price = its.price ∙ same.level.price;
  }))

  instead-later : SamePlace o o' → (x : Order) → IsEarlier x o → IsEarlier x o'
  instead-later same x earlier = λ its. subst (λ s. x.stamp < s) (sym same.stamp) (earlier (record {
    symbol = sym same.level.symbol ∙ its.symbol;
    side = sym same.level.side ∙ its.side;
    price = sym same.level.price ∙ its.price;
  }))

  in_time-instead : (xs ys : List Order) → SamePlace o o' → InTime (xs ++ o ∷ ys) → InTime (xs ++ (live_alone o' ++ ys))
  in_time-instead [] ys same in_time = elim (is_live o') as (λ b. InTime ((if b then o' ∷ [] else []) ++ ys)) [
    | true ↦ (each-map (IsEarlier o) (IsEarlier o') (earlier-instead same) ys in_time.0, in_time.1)
    | false ↦ in_time.1
  ]
  in_time-instead (x ∷ xs) ys same in_time = (
    each-instead (IsEarlier x) xs ys (λ live earlier. instead-later same x earlier) in_time.0,
    in_time-instead xs ys same in_time.1,
  )

  pub length-instead : (xs ys : List Order) → length (xs ++ (live_alone o' ++ ys)) ≤ length (xs ++ o ∷ ys)
  length-instead xs ys =
      let whole = length-append xs (o ∷ ys) in
      let after = length-append xs (live_alone o' ++ ys) in
      let rest = length-append (live_alone o') ys in
      let one = length-alone o' in
      omega (arith, whole, after, rest, one)

  pub standing-instead : (xs ys : List Order) → SamePlace o o' → InRange o' → IsBookList (xs ++ o ∷ ys)
      → IsBookList (xs ++ (live_alone o' ++ ys))
  standing-instead xs ys same in_range standing = record {
    in_time = in_time-instead xs ys same standing.in_time;
    each = each-instead Rests xs ys (λ live r. rests-live o' live (same.market ∙ r.limit) in_range) standing.each;
    few = let shorter = length-instead xs ys in let few = standing.few in omega (arith, shorter, few);
  }

  pub below-instead : (xs ys : List Order) (sequence : ℕ) → o'.stamp ≡ o.stamp → Below sequence (xs ++ o ∷ ys)
      → Below sequence (xs ++ (live_alone o' ++ ys))
  below-instead xs ys sequence stamp below = each-instead (λ y. y.stamp < sequence) xs ys
      (λ live h. subst (λ s. s < sequence) (sym stamp) h) below

-- one more at the end, that may rest
pub standing-push : (xs : List Order) (o : Order) → MayComeIn Day o xs → IsBookList xs → IsBookList (xs ++ o ∷ [])
standing-push xs o its standing =
    let some = its.some in
    let few = its.place refl in
    let rests : Rests o = record { live = omega (arith, some); limit = its.limit refl; in_range = its.in_range } in
    record {
      in_time = pairs-push IsEarlier xs o standing.in_time
          (each-map (λ x. x.stamp < o.stamp) (λ x. IsEarlier x o) (λ x earlier one_level. earlier) xs its.behind);
      each = each-append Rests xs (o ∷ []) standing.each (rests, tt);
      few = let more = length-append xs (o ∷ []) in omega (arith, more, few);
    }

pub below-push : (xs : List Order) (o : Order) (sequence : ℕ) → o.stamp < sequence → Below sequence xs
    → Below sequence (xs ++ o ∷ [])
below-push xs o sequence h below = each-append (λ x. x.stamp < sequence) xs (o ∷ []) below (h, tt)

-- some of the list
pub length-filter-le : (p : Order → Bool) (xs : List Order) → length (filter p xs) ≤ length xs
length-filter-le p [] = omega arith
length-filter-le p (x ∷ xs) =
    let shorter = length-filter-le p xs in
    elim (p x) as (λ b. length (if b then x ∷ filter p xs else filter p xs) ≤ suc (length xs))
    [ true ↦ omega (arith, shorter) | false ↦ omega (arith, shorter) ]

pub standing-filter : (p : Order → Bool) (xs : List Order) → IsBookList xs → IsBookList (filter p xs)
standing-filter p xs standing = record {
  in_time = pairs-filter IsEarlier p xs standing.in_time;
  each = each-filter Rests p xs standing.each;
  few = let shorter = length-filter-le p xs in let few = standing.few in omega (arith, shorter, few);
}

-- what is below a sequence is below the next
pub below_more : (xs : List Order) (sequence : ℕ) → Below sequence xs → Below (sequence + 1) xs
below_more xs sequence below = each-map (λ x. x.stamp < sequence) (λ x. x.stamp < sequence + 1)
    (λ x h. omega (arith, h)) xs below
