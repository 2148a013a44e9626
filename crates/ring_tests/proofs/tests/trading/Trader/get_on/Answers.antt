-- Neither publishing nor taking leaves a claim.
use Rattle.ring_tests.proofs.tests.trading.Trader.get_on.Goals as goal

pub returns-then-take : goal.returns-then-take
returns-then-take g c = λ rings k spent. c.take.ensures rings k (c.publish-is_sent.ensures rings k spent)

pub returns-else-take : goal.returns-else-take
returns-else-take g c = λ rings k spent. c.take.ensures rings k (c.publish-is_sent.ensures rings k spent)
