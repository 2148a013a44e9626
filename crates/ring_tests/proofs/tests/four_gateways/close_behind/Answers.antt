-- Each gateway's seat comes back with no claim, under the number that it had.
use Rattle.std.proofs.Common.{arith}
use Rattle.small_venue.proofs.Seats.{are_gateways}
use Rattle.ring_tests.proofs.tests.four_gateways.close_behind.Goals as goal

pub put_all_back-requires : goal.put_all_back-requires
put_all_back-requires g c =
    let rings = c.in_ok-rings.rings in
    let first = c.in-Some.ensures.first in
    let last = c.in-Some.ensures.last in
    let run = c.run_all-staff.ensures in (
      omega arith,
      (
        (c.in-Some.ensures.left, c.in-Some.ensures.none),
        (
          (run.first.0 rings 1 first.0, run.first.1 rings 2 first.1),
          (run.last.0 rings 3 last.0, run.last.1 rings 4 last.1),
        ),
      ),
    )

pub close-requires : goal.close-requires
close-requires g c =
    let all = c.in_ok-given.ensures.all in (
      omega arith,
      (
        c.run_all-staff.ensures.staff,
        (
          are_gateways c.in_ok-rings.rings _ all,
          (c.in_ok-given.ensures.count, λ i s there. (all i s there).claims),
        ),
      ),
    )
