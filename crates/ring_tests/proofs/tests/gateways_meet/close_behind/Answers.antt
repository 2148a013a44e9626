-- Both gateways' seats come back with no claim, to the rings that they were opened with.
use Rattle.std.proofs.Common.{subst, arith}
use Rattle.small_venue.specs.Seats.{IsSpent}
use Rattle.small_venue.proofs.Seats.{met_spent, are_gateways}
use Rattle.ring_tests.proofs.tests.gateways_meet.close_behind.Goals as goal

pub meet-requires : goal.meet-requires
meet-requires g c =
    let rings = c.in_ok-rings.rings in (
      omega arith,
      (
        (c.run-staff.ensures.seats.0 rings _ c.in-Some.ensures.first).at,
        (c.run-staff.ensures.seats.1 rings _ c.in-Some.ensures.last).at,
      ),
    )

pub put_back-requires : goal.put_back-requires
put_back-requires g c =
    let rings = c.in_ok-rings.rings in (
      omega arith,
      (
        c.in-Some.ensures.left,
        met_spent rings _ c.run-staff.result.1.0.0 c.meet.new.one _ _ c.meet.ensures.steps.1
            (c.run-staff.ensures.seats.0 rings _ c.in-Some.ensures.first),
      ),
    )

pub put_back-requires-2 : goal.put_back-requires-2
put_back-requires-2 g c =
    let rings = c.in_ok-rings.rings in (
      omega arith,
      (
        c.in_ok-put_back.ensures.all,
        subst (λ k. IsSpent rings k c.meet.new.other)
            (omega (arith, c.in_ok-put_back.ensures.count, c.in-Some.ensures.count))
            (met_spent rings _ c.run-staff.result.1.1.0 c.meet.new.other _ _ c.meet.ensures.steps.2
            (c.run-staff.ensures.seats.1 rings _ c.in-Some.ensures.last)),
      ),
    )

pub close-requires : goal.close-requires
close-requires g c =
    let all = c.in_ok-put_back-2.ensures.all in (
      omega arith,
      (
        c.run-staff.ensures.staff,
        (
          are_gateways c.in_ok-rings.rings _ all,
          (
            omega (
              arith,
              c.in_ok-put_back.ensures.count,
              c.in_ok-put_back-2.ensures.count,
              c.in-Some.ensures.count,
              c.in_ok-rings.ensures.count,
            ),
            λ i s there. (all i s there).claims,
          ),
        ),
      ),
    )
