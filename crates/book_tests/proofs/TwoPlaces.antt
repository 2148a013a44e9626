-- Two places, and the order that comes to one of them.
use Rattle.std.proofs.Common.{◌≡◌, ℕ, zero, suc, ◌<◌, ◌∷◌, [], length, inl, inr, Some, None, subst, arith}
use Rattle.std.specs.Prelude.{slice_set}
use Rattle.venue_model.specs.declared.orders.Order.{Order}
use Rattle.price_levels.specs.Places.{Places, StandsAt, standing, ComesLater}
use Rattle.price_levels.specs.StampLaws.{at-set}

-- two places that are free
abbrev pub two : Places
two = None ∷ None ∷ []

pub none-stands : (p : ℕ) (x : Order) → StandsAt two p x → ⊥
none-stands zero x is = let e : None ≡ Some x = is in cc
none-stands (suc zero) x is = let e : None ≡ Some x = is in cc
none-stands (suc (suc p)) x is = let e : None ≡ Some x = is in cc

pub one-is-free : (n : ℕ) (o : Order) → n < 2 →
    length (standing (slice_set two n (Some o))) < length (slice_set two n (Some o))
one-is-free zero o within = omega arith
one-is-free (suc zero) o within = omega arith
one-is-free (suc (suc n)) o within = absurd (omega (arith, within))

pub comes-first : (o : Order) → ComesLater two o
comes-first o p x stands in_one = absurd (none-stands p x stands)

pub comes-second : (n : ℕ) (first second : Order) → first.stamp < second.stamp →
    ComesLater (slice_set two n (Some first)) second
comes-second n first second less p x stands in_one = elim (at-set two n p (Some first) x stands) [
  | inl here ↦
      let same : first ≡ x = let e : Some first ≡ Some x = here.1 in cc in
      subst (λ (y : Order). y.stamp < second.stamp) same less
  | inr there ↦ absurd (none-stands p x there.1)
]
