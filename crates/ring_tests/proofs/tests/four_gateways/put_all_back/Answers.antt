-- Each seat stands behind those before it.
use Rattle.std.proofs.Common.{subst, arith}
use Rattle.small_venue.specs.Seats.{IsSpent}
use Rattle.ring_tests.proofs.tests.four_gateways.put_all_back.Goals as goal

pub put_back-requires : goal.put_back-requires
put_back-requires g c = (
  omega arith,
  (
    c.requires.none.0,
    subst (λ k. IsSpent c.args.rings.now k c.args.back.0.0.0)
        (omega (arith, c.requires.none.1))
        c.requires.first.0,
  ),
)

pub put_back-requires-2 : goal.put_back-requires-2
put_back-requires-2 g c = (
  omega arith,
  (
    c.in_ok-put_back.ensures.all,
    subst (λ k. IsSpent c.args.rings.now k c.args.back.0.1.0)
        (omega (arith, c.requires.none.1, c.in_ok-put_back.ensures.count))
        c.requires.first.1,
  ),
)

pub put_back-requires-3 : goal.put_back-requires-3
put_back-requires-3 g c = (
  omega arith,
  (
    c.in_ok-put_back-2.ensures.all,
    subst (λ k. IsSpent c.args.rings.now k c.args.back.1.0.0)
        (omega (arith, c.requires.none.1, c.in_ok-put_back.ensures.count, c.in_ok-put_back-2.ensures.count))
        c.requires.last.0,
  ),
)

pub put_back-requires-4 : goal.put_back-requires-4
put_back-requires-4 g c = (
  omega arith,
  (
    c.in_ok-put_back-3.ensures.all,
    subst (λ k. IsSpent c.args.rings.now k c.args.back.1.1.0)
        (omega (
          arith,
          c.requires.none.1,
          c.in_ok-put_back.ensures.count,
          c.in_ok-put_back-2.ensures.count,
          c.in_ok-put_back-3.ensures.count,
        ))
        c.requires.last.1,
  ),
)

pub returns-clause-count : goal.returns-clause-count
returns-clause-count g c = omega (
  arith,
  c.requires.none.1,
  c.in_ok-put_back.ensures.count,
  c.in_ok-put_back-2.ensures.count,
  c.in_ok-put_back-3.ensures.count,
  c.in_ok-put_back-4.ensures.count,
)
