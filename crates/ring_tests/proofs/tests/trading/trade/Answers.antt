-- Each step leaves the gateway without a claim.
use Rattle.ring_tests.proofs.tests.trading.trade.Goals as goal

pub loop-preserved : goal.loop-preserved
loop-preserved g c = λ rings k spent. c.get_on.ensures rings k (c.loop.invariant rings k spent)
