-- The gateway's seat comes back with no claim, under the number that it had.
use Rattle.std.proofs.Common.{subst, arith}
use Rattle.small_venue.specs.Seats.{IsSpent}
use Rattle.ring_tests.proofs.tests.one_gateway_ring.close_behind.Goals as goal

pub put_back-requires : goal.put_back-requires
put_back-requires g c = (
  omega arith,
  (
    c.in-Some.ensures.left,
    subst (λ k. IsSpent c.in_ok-rings.rings k c.is_acknowledged.new.gateway.seat)
        (omega (arith, c.in-Some.ensures.count))
        (c.is_acknowledged.ensures.spent c.in_ok-rings.rings _ c.in-Some.ensures.member),
  ),
)
