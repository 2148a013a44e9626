-- Levels without orders: all places free.
use Rattle.std.proofs.Common.{◌≡◌, ℕ, zero, suc, ◌+◌, ◌*◌, ◌^◌, ◌<◌, Bool, true, false, ◌&&◌, List, [], ◌∷◌, ◌++◌}
use Rattle.std.proofs.Common.{length, Option, Some, None, refl, ap, sym, subst, ◌∙◌, arith, length-append}
use Rattle.std.specs.Prelude.{replicate, nat_eq, nat_lt, is_none, count_by}
use Rattle.std.proofs.Math.Decide.{ℕ_discrete}
use Rattle.std.proofs.lemmas.Bool.Decides.{nat_tests}
use Rattle.std.proofs.lemmas.List.{length-replicate}
use Rattle.venue_model.specs.declared.orders.Order.{Order}
use Rattle.price_levels.specs.declared.keys.Key.{Key}
use Rattle.price_levels.specs.declared.nodes.Node.{Node}
use Rattle.price_levels.specs.Places.{Places, standing}
use Rattle.price_levels.specs.Arena.{Point, At, End, leads_to, key_at, vacant, node_at, order_at, next_point}
use Rattle.price_levels.specs.Arena.{prev_point, places_of, IsArena, AreLevels, IsLevels}
use Rattle.price_levels.proofs.ArenaLemmas.{bit, count-end}
use Rattle.price_levels.proofs.NodeLemmas.{order-is}
use Rattle.price_levels.proofs.LeftLemmas.{Share, what-is-left, how-many, total_of, none-given}

-- each number below this one, once
pub record AreFirst (free : List ℕ) (n : ℕ) : Type 0 where
  pub once : (p : ℕ) → count_by (nat_eq p) free ≡ bit (nat_lt p n)
  pub long : length free ≡ n

pub first-none : (free : List ℕ) → free ≡ [] → AreFirst free 0
first-none free is = subst (λ l. AreFirst l 0) (sym is) (record {
  once = λ p. let none : nat_lt p 0 ≡ false = grind (arith, nat_tests) in sym (ap bit none);
  long = refl;
})

pub first-more : (free free' : List ℕ) (n : ℕ) → free' ≡ free ++ n ∷ [] → AreFirst free n → AreFirst free' (n + 1)
first-more free free' n is first = subst (λ l. AreFirst l (n + 1)) (sym is) (record {
  once = λ p.
      let before = first.once p in
      let parts = count-end p n free in
      elim (ℕ_discrete p n) [
        | yes same ↦
            let yes_now : nat_lt p (n + 1) ≡ true = grind (arith, nat_tests, same) in
            let not_yet : nat_lt p n ≡ false = grind (arith, nat_tests, same) in
            let equal : nat_eq p n ≡ true = grind (arith, nat_tests, same) in
            let a = ap bit yes_now in let b = ap bit not_yet in let d = ap bit equal in
            omega (arith, before, parts, a, b, d)
        | no other ↦
            let as_before : nat_lt p (n + 1) ≡ nat_lt p n = grind (arith, nat_tests, other) in
            let differ : nat_eq p n ≡ false = grind (arith, nat_tests, other) in
            let a = ap bit as_before in let d = ap bit differ in
            omega (arith, before, parts, a, d)
      ];
  long = let parts = length-append free (n ∷ []) in let long = first.long in omega (arith, parts, long);
})

empty-at : (n p : ℕ) → order_at (replicate n vacant) p ≡ None
empty-at zero p = refl
empty-at (suc n) zero = refl
empty-at (suc n) (suc p) = empty-at n p

pub empty-places : (n : ℕ) → places_of (replicate n vacant) ≡ replicate n None
empty-places zero = refl
empty-places (suc n) = ap (λ (l : Places). None ∷ l) (empty-places n)

none-stands : (n : ℕ) → length (standing (places_of (replicate n vacant))) ≡ 0
none-stands zero = refl
none-stands (suc n) = none-stands n

none-is : (n p : ℕ) (o : Order) → order_at (replicate n vacant) p ≡ Some o → ⊥
none-is n p o is = let e : None ≡ Some o = sym (empty-at n p) ∙ is in cc

next-itself : (n : ℕ) (x : Point) → next_point (replicate n vacant) [] x ≡ x
next-itself n (At p) = ap (λ o. leads_to o (node_at (replicate n vacant) p).next p) (empty-at n p)
next-itself n (End k) = refl

prev-itself : (n : ℕ) (x : Point) → prev_point (replicate n vacant) [] x ≡ x
prev-itself n (At p) = ap (λ o. leads_to o (node_at (replicate n vacant) p).prev p) (empty-at n p)
prev-itself n (End k) = refl

empty-said-of : (s : Share) (n : ℕ) (k : Key) → total_of s k (places_of (replicate n vacant)) ≡ 0
empty-said-of s n k = none-given s k (places_of (replicate n vacant)) (λ p o is. absurd (none-is n p o (sym (order-is
    (replicate n vacant) p) ∙ is)))

pub empty-levels : (n : ℕ) → n * 1000000 < 2 ^ 64 → AreLevels (replicate n vacant) []
empty-levels n fits = record {
  bounds = record {
    each = λ p o is. absurd (none-is n p o is);
    fits = let long = length-replicate n vacant in subst
        (λ m. m * 1000000 < 2 ^ 64) (sym long) fits;
  };
  rings = record {
    there = λ x. prev-itself n (next_point (replicate n vacant) [] x) ∙ next-itself n x;
    back = λ x. next-itself n (prev_point (replicate n vacant) [] x) ∙ prev-itself n x;
    key = λ x. ap (key_at (order_at (replicate n vacant))) (next-itself n x);
    later = λ p q o x leads is also. absurd (none-is n p o is);
    apart = λ p q o x is also key stamp. absurd (none-is n p o is);
  };
  in_order = tt;
  left = λ k. sym (empty-said-of what-is-left n k);
  orders = λ k. sym (empty-said-of how-many n k);
}

vacant-there : (t : Bool) (o : Option Order) → o ≡ None → bit t ≡ bit (t && is_none o)
vacant-there true o is = ap (λ x. bit (is_none x)) (sym is)
vacant-there false o is = refl

pub empty-arena : (n : ℕ) (free : List ℕ) → AreFirst free n → IsArena (replicate n vacant) free
empty-arena n free first = record {
  once = λ p. first.once p ∙ ap (λ m. bit (nat_lt p m)) (sym (length-replicate n vacant))
      ∙ vacant-there (nat_lt p (length
      (replicate n vacant))) (order_at (replicate n vacant) p) (empty-at n p);
  all = let none = none-stands n in
      let long = length-replicate n vacant in
      let all = first.long in
      omega (arith, none, long, all);
}

pub empty : (nodes : List Node) (free : List ℕ) (n : ℕ) → nodes ≡ replicate n vacant → n * 1000000 < 2 ^ 64
    → AreFirst free n →
    IsLevels nodes free []
empty nodes free n is fits first = subst (λ ns. IsLevels ns free []) (sym is) (record {
  arena = empty-arena n free first;
  ordered = empty-levels n fits;
})
