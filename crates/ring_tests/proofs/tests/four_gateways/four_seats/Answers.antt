-- The seats have the numbers from the last one on.
use Rattle.std.proofs.Common.{subst, arith}
use Rattle.small_venue.specs.Seats.{IsSpent}
use Rattle.ring_tests.proofs.tests.four_gateways.four_seats.Goals as goal

pub returns-clause-none : goal.returns-clause-none
returns-clause-none g c = omega (
  arith,
  c.requires.four.1,
  c.in_ok-third.ensures.count,
  c.in_ok-first.ensures.count,
)

pub returns-clause-first : goal.returns-clause-first
returns-clause-first g c =
    let rings = c.args.rings.now in (
      subst (λ k. IsSpent rings k c.in_ok-first.first.seat)
          (omega (arith, c.requires.four.1, c.in_ok-third.ensures.count, c.in_ok-first.ensures.count))
          c.in_ok-first.ensures.first,
      subst (λ k. IsSpent rings k c.in_ok-first.second.seat)
          (omega (arith, c.requires.four.1, c.in_ok-third.ensures.count))
          c.in_ok-first.ensures.last,
    )

pub returns-clause-last : goal.returns-clause-last
returns-clause-last g c =
    let rings = c.args.rings.now in (
      subst (λ k. IsSpent rings k c.in_ok-third.third.seat)
          (omega (arith, c.requires.four.1, c.in_ok-third.ensures.count))
          c.in_ok-third.ensures.first,
      subst (λ k. IsSpent rings k c.in_ok-third.fourth.seat) (omega (arith, c.requires.four.1))
          c.in_ok-third.ensures.last,
    )
