-- Publishing left the gateway at its rings, and the stages' poll the journaller.
use Rattle.std.proofs.Common.{arith}
use Rattle.ring_tests.proofs.tests.five_in_one_poll.keep_five.Goals as goal

pub meet_and_publish-released-requires : goal.meet_and_publish-released-requires
meet_and_publish-released-requires c = (
  omega arith,
  (
    (c.publish_five-published.ensures c.in_ok-rings.rings _ c.in-Some.ensures.member).at,
    c.end_journaller-journaller.ensures,
  ),
)
