-- Neither publishing nor taking leaves a claim.
use Rattle.ring_tests.proofs.tests.one_gateway_ring.is_acknowledged.Goals as goal

pub returns-clause-spent : goal.returns-clause-spent
returns-clause-spent g c = λ rings k spent. c.take-next.ensures rings k
    (c.take-taken.ensures rings k (c.publish-published.ensures rings k spent))
