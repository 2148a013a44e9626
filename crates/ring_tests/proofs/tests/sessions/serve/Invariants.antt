-- the session lives, and it and the stages are at these rings
use Rattle.std.specs.Prelude.{◌≡◌, true}
use Rattle.ring_words.specs.At.{IsAt}
use Rattle.stages.specs.Crews.{AreAt}
use Rattle.ring_tests.proofs.tests.sessions.serve.Given as goal

abbrev pub invariant-loop : goal.invariant-loop
invariant-loop g l = record {
  live : l.gateway.front.live ≡ true;
  table : IsAt l.fn.rings l.gateway.seat;
  stages : AreAt l.fn.rings l.stages.value;
}
