-- The journaller's seat is the one that its stage had.
use Rattle.std.proofs.Common.{sym, subst}
use Rattle.stages.specs.Crews.{AreAt}
use Rattle.ring_tests.proofs.tests.five_in_one_poll.end_journaller.Goals as goal

pub returns : goal.returns
returns g c =
    let rings = c.args.rings.now in
    let are : AreAt rings c.into_inner.result = rw c.into_inner.ensures c.requires in
    let parts = subst (λ crew. AreAt rings crew) (sym c.journaller.view_is) are in
    rw c.end-seat.ensures.given.0 parts.journaller
