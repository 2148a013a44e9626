use Rattle.ring_words.specs.Crew.{AreNewGateways}
use Rattle.bench.proofs.stages_rate.path.gateways.Given as goal

abbrev pub invariant-loop : goal.invariant-loop
invariant-loop g l = AreNewGateways l.rings l.seats.items
