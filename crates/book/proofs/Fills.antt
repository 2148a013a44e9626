-- What the orders of a queue get, where one of them leads all others.
use Rattle.std.proofs.Common.{◌≡◌, ℕ, ◌+◌, ◌-◌, ◌<◌, ◌≤◌, min, true, false, List, [], ◌∷◌, ◌++◌, refl, ap, sym, ◌∙◌}
use Rattle.std.proofs.Common.{arith}
use Rattle.std.specs.Prelude.{sum_by, filter, if◌then◌else◌}
use Rattle.std.specs.List.{AllByRecursion}
use Rattle.venue_model.specs.declared.orders.Order.{Order}
use Rattle.venue_model.specs.Orders.{leaves, is_live, ahead}
use Rattle.venue_model.specs.Match.{filled, fill, leaves_ahead, live_alone}
use Rattle.std.proofs.lemmas.List.Elements.{filter-append}
use Rattle.std.proofs.lemmas.Bool.Decides.{nat_tests}
use Rattle.book.proofs.Lists.{filter-in, filter-none, each-append, sum-middle}

-- what stands ahead of x, with one more in the middle that is, or isn't
module _ (xs ys : List Order) (o x : Order) where
  pub ahead-more : ahead o x ≡ true → leaves_ahead (xs ++ o ∷ ys) x ≡ leaves o + leaves_ahead (xs ++ ys) x
  ahead-more leads =
      ap (sum_by leaves) (filter-in (λ y. ahead y x) xs ys o leads)
      ∙ sum-middle leaves (filter (λ y. ahead y x) xs) (filter (λ y. ahead y x) ys) o
      ∙ ap (λ zs. leaves o + sum_by leaves zs) (sym (filter-append (λ y. ahead y x) xs ys))

-- the numbers of a fill behind one that takes the lesser of l and q
behind-used : (mine l q s : ℕ) → min mine (q - (l + s)) ≡ min mine (q - min l q - s)
behind-used mine l q s = omega arith

behind-none : (mine l q s t : ℕ) → q ≤ l → min mine (q - (l + s)) ≡ min mine (q - min l q - t)
behind-none mine l q s t full = omega arith

-- what is left of an order after a fill
pub leaves-filled : (o : Order) (n p : ℕ) → leaves (filled o n p) ≡ leaves o - n
leaves-filled o n p = omega arith

pub live-true : (o : Order) → 0 < leaves o → is_live o ≡ true
live-true o some = grind (arith, nat_tests)

-- what is left of an order behind a fill of a quantity, where something is left of it
abbrev pub left : ℕ → Order → List Order
left q o = live_alone (filled o (min (leaves o) q) o.price)

module _ (q : ℕ) (o : Order) (xs ys : List Order) where
  -- the first one gets all that it can take
  pub fill-first : ahead o o ≡ false → AllByRecursion (λ x. ahead x o ≡ false) xs
      → AllByRecursion (λ x. ahead x o ≡ false) ys →
      fill q (xs ++ o ∷ ys) o ≡ min (leaves o) q
  fill-first apart before behind =
      let none : leaves_ahead (xs ++ o ∷ ys) o ≡ 0 = ap (sum_by leaves)
      (filter-none (λ x. ahead x o) (xs ++ o ∷ ys)
      (each-append (λ x. ahead x o ≡ false) xs (o ∷ ys) before (apart, behind))) in
      ap (λ s. min (leaves o) (q - s)) none ∙ ap (min (leaves o)) (omega arith)

  used-up : is_live (filled o (min (leaves o) q) o.price) ≡ true → q ≤ leaves o
  used-up live = grind (arith, nat_tests)

  -- the others get what they get of the rest, whether the first one is used up or not
  pub fill-behind : (x : Order) → ahead o x ≡ true → fill q (xs ++ o ∷ ys) x
      ≡ fill (q - min (leaves o) q) (xs ++ (left q o ++ ys)) x
  fill-behind x leads =
      elim (is_live (filled o (min (leaves o) q) o.price)) as
      (λ b. is_live (filled o (min (leaves o) q) o.price) ≡ b →
      fill q (xs ++ o ∷ ys) x ≡ fill (q - min (leaves o) q)
      (xs ++ ((if b then filled o (min (leaves o) q) o.price ∷ [] else []) ++ ys)) x) [
        | true ↦ λ live. ap (λ s. min (leaves x) (q - s)) (ahead-more xs ys o x leads)
            ∙ behind-none (leaves x) (leaves o) q (leaves_ahead (xs ++ ys) x)
            (leaves_ahead (xs ++ filled o (min (leaves o) q) o.price ∷ ys) x) (used-up live)
        | false ↦ λ gone. ap (λ s. min (leaves x) (q - s)) (ahead-more xs ys o x leads)
            ∙ behind-used (leaves x) (leaves o) q (leaves_ahead (xs ++ ys) x)
      ] refl
