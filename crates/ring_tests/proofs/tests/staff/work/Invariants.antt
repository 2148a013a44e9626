-- the stage stays at its rings
use Rattle.ring_tests.proofs.tests.staff.work.Given as goal

abbrev pub invariant-loop : goal.invariant-loop
invariant-loop g l = g.S.Stage.sits l.fn.rings l.stage
