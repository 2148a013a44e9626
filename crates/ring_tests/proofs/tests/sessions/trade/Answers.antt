-- The gateways' seats are those that the rings were opened with, and then those before the last one.
use Rattle.std.proofs.Common.{lit<}
use Rattle.ring_tests.proofs.tests.sessions.trade.Goals as goal

pub last_gateway-requires : goal.last_gateway-requires
last_gateway-requires g c =
    let opened = c.in_ok-rings.ensures in
    (lit< tt, (opened.opened, rw c.in_ok-stages.ensures.gateways opened.seats.gateways))

pub last_gateway-requires-2 : goal.last_gateway-requires-2
last_gateway-requires-2 g c =
    let opened = c.in_ok-rings.ensures in (lit< tt, (opened.opened, c.in_ok-seller.ensures.left))
