-- Publishing leaves no claim.
use Rattle.ring_tests.proofs.tests.five_in_one_poll.publish_five.Goals as goal

pub returns : goal.returns
returns g c = λ rings k spent. c.publish-5.ensures rings k (c.publish-4.ensures rings k (c.publish-3.ensures rings k
    (c.publish-2.ensures rings k (c.publish.ensures rings k spent))))
