-- The gateways' seats are those that the rings were opened with.
use Rattle.std.proofs.Common.{lit<}
use Rattle.ring_tests.proofs.tests.sessions.serve_again.Goals as goal

pub last_gateway-requires : goal.last_gateway-requires
last_gateway-requires g c =
    let opened = c.in_ok-rings.ensures in
    (lit< tt, (opened.opened, rw c.in_ok-stages.ensures.gateways opened.seats.gateways))
