-- the gateway has no claim that it hadn't at the start
use Rattle.small_venue.specs.Seats.{StaysSpent}
use Rattle.ring_tests.proofs.tests.trading.trade.Given as goal

abbrev pub invariant-loop : goal.invariant-loop
invariant-loop g l = StaysSpent l.fn.seat l.trader.gateway.seat
