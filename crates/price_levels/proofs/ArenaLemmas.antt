-- The free places, as one is taken and one comes back.
use Rattle.std.proofs.Common.{◌≡◌, ℕ, ◌+◌, ◌<◌, Bool, true, false, ◌&&◌, List, [], ◌∷◌, ◌++◌, length, Option, Some}
use Rattle.std.proofs.Common.{None, refl, ap, sym, subst, ◌∙◌, arith, length-append}
use Rattle.std.specs.Prelude.{◌≢◌, nat_eq, nat_lt, is_none, count_by, if◌then◌else◌}
use Rattle.std.proofs.Math.Decide.{ℕ_discrete}
use Rattle.std.proofs.lemmas.Bool.Decides.{nat_tests}
use Rattle.std.proofs.lemmas.List.Sums.{sum_by-append}
use Rattle.venue_model.specs.declared.orders.Order.{Order}
use Rattle.price_levels.specs.declared.nodes.Node.{Node}
use Rattle.price_levels.specs.Places.{standing}
use Rattle.price_levels.specs.Arena.{order_at, places_of, vacancy, IsArena}
use Rattle.price_levels.proofs.NodeLemmas.{Seen, seen-sets, count-seen, one}

abbrev pub bit : Bool → ℕ
bit t = if t then 1 else 0

-- a place's vacancy by its order
vacancy-by : (nodes : List Node) (p : ℕ) (x : Option Order) → p < length nodes → order_at nodes p ≡ x
    → vacancy nodes p ≡ bit (is_none x)
vacancy-by nodes p x within is =
    let in_nodes : nat_lt p (length nodes) ≡ true = grind (arith, nat_tests, within) in
    ap (λ t. bit (t && is_none (order_at nodes p))) in_nodes ∙ ap (λ o. bit (is_none o)) is

vacancy-same : (old new : List Node) (p : ℕ) → length new ≡ length old → order_at new p ≡ order_at old p
    → vacancy new p ≡ vacancy old p
vacancy-same old new p long same = ap (λ n. bit (nat_lt p n && is_none (order_at new p))) long ∙ ap (λ o. bit (nat_lt p
    (length old) && is_none o)) same

-- what a vacancy says
vacant-by : (nodes : List Node) (p : ℕ) (t : Bool) (x : Option Order) → nat_lt p (length nodes) ≡ t
    → order_at nodes p ≡ x → 0 < bit
    (t && is_none x) →
    (p < length nodes) × (order_at nodes p ≡ None)
vacant-by nodes p true None lt is some = (grind (arith, nat_tests, lt), is)
vacant-by nodes p true (Some o) lt is some = absurd (omega (arith, some))
vacant-by nodes p false x lt is some = absurd (omega (arith, some))

is-vacant : (nodes : List Node) (p : ℕ) → 0 < vacancy nodes p → (p < length nodes) × (order_at nodes p ≡ None)
is-vacant nodes p some = vacant-by nodes p (nat_lt p (length nodes)) (order_at nodes p) refl refl some

-- one number more at the end
pub count-end : (p x : ℕ) (free : List ℕ) → count_by (nat_eq p) (free ++ x ∷ [])
    ≡ count_by (nat_eq p) free + bit (nat_eq p x)
count-end p x free = let parts = sum_by-append (λ y. bit (nat_eq p y)) free (x ∷ []) in omega (arith, parts)

same-number : (p : ℕ) → nat_eq p p ≡ true
same-number p = grind (arith, nat_tests)

other-number : (p q : ℕ) → q ≢ p → nat_eq q p ≡ false
other-number p q other = grind (arith, nat_tests, other)

module _ (nodes : List Node) (free : List ℕ) (x : ℕ) (arena : IsArena nodes (free ++ x ∷ [])) where
  -- the last free place is vacant
  pub taken-vacant : (x < length nodes) × (order_at nodes x ≡ None)
  taken-vacant =
      let once = arena.once x in
      let parts = count-end x x free in
      let same = ap bit (same-number x) in
      is-vacant nodes x (omega (arith, once, parts, same))

  -- it holds an order now
  pub taken : (new : List Node) (o : Order) → Seen nodes new x (Some o) → IsArena new free
  taken new o seen =
      let sets = seen-sets nodes new x (Some o) seen in
      let vacant = taken-vacant in
      record {
        once = λ q. elim (ℕ_discrete q x) [
          | yes is ↦
              let once = arena.once x in
              let parts = count-end x x free in
              let same = ap bit (same-number x) in
              let was = vacancy-by nodes x None vacant.0 vacant.1 in
              let long = seen.long in
              let now = vacancy-by new x (Some o) (let v = vacant.0 in omega (arith, long, v)) sets.here in
              let all : count_by (nat_eq x) free ≡ vacancy new x = omega (arith, once, parts, same, was, now) in
              subst (λ n. count_by (nat_eq n) free ≡ vacancy new n) (sym is) all
          | no other ↦
              let once = arena.once q in
              let parts = count-end q x free in
              let none = ap bit (other-number x q other) in
              let was = vacancy-same nodes new q seen.long (sets.others q other) in
              omega (arith, once, parts, none, was)
        ];
        all =
            let all = arena.all in
            let count = count-seen nodes new x (Some o) seen in
            let free_one = ap one vacant.1 in
            let parts = length-append free (x ∷ []) in
            let long = seen.long in
            omega (arith, all, count, free_one, parts, long);
      }

-- a place comes back
pub given : (nodes new : List Node) (free : List ℕ) (x : ℕ) (o : Order) → IsArena nodes free
    → order_at nodes x ≡ Some o →
    Seen nodes new x None → IsArena new (free ++ x ∷ [])
given nodes new free x o arena here seen =
    let sets = seen-sets nodes new x None seen in
    record {
      once = λ q. elim (ℕ_discrete q x) [
        | yes is ↦
            let once = arena.once x in
            let parts = count-end x x free in
            let same = ap bit (same-number x) in
            let was = vacancy-by nodes x (Some o) seen.within here in
            let long = seen.long in
            let within = seen.within in
            let now = vacancy-by new x None (omega (arith, long, within)) sets.here in
            let all : count_by (nat_eq x) (free ++ x ∷ []) ≡ vacancy new x =
            omega (arith, once, parts, same, was, now) in
            subst (λ n. count_by (nat_eq n) (free ++ x ∷ []) ≡ vacancy new n) (sym is) all
        | no other ↦
            let once = arena.once q in
            let parts = count-end q x free in
            let none = ap bit (other-number x q other) in
            let was = vacancy-same nodes new q seen.long (sets.others q other) in
            omega (arith, once, parts, none, was)
      ];
      all =
          let all = arena.all in
          let count = count-seen nodes new x None seen in
          let was_one = ap one here in
          let parts = length-append free (x ∷ []) in
          let long = seen.long in
          omega (arith, all, count, was_one, parts, long);
    }

-- an order stands in place of another
pub stays : (nodes new : List Node) (free : List ℕ) (x : ℕ) (o y : Order) → IsArena nodes free
    → order_at nodes x ≡ Some o →
    Seen nodes new x (Some y) → IsArena new free
stays nodes new free x o y arena here seen =
    let sets = seen-sets nodes new x (Some y) seen in
    record {
      once = λ q. elim (ℕ_discrete q x) [
        | yes is ↦
            let once = arena.once x in
            let was = vacancy-by nodes x (Some o) seen.within here in
            let long = seen.long in
            let within = seen.within in
            let now = vacancy-by new x (Some y) (omega (arith, long, within)) sets.here in
            let all : count_by (nat_eq x) free ≡ vacancy new x = omega (arith, once, was, now) in
            subst (λ n. count_by (nat_eq n) free ≡ vacancy new n) (sym is) all
        | no other ↦ arena.once q ∙ sym (vacancy-same nodes new q seen.long (sets.others q other))
      ];
      all =
          let all = arena.all in
          let count = count-seen nodes new x (Some y) seen in
          let was_one = ap one here in
          let long = seen.long in
          omega (arith, all, count, was_one, long);
    }

-- where an order has room, some place is free
pub some-free : (nodes : List Node) (free : List ℕ) → IsArena nodes free
    → length (standing (places_of nodes)) < length nodes →
    0 < length free
some-free nodes free arena room = let all = arena.all in omega (arith, all, room)
