-- the stages stay at their rings
use Rattle.stages.specs.Crews.{AreAt}
use Rattle.ring_tests.proofs.tests.staff.poll_all.Given as goal

abbrev pub invariant-loop : goal.invariant-loop
invariant-loop g l = AreAt l.fn.rings l.staff
