-- No port that was made has a client out.
use Rattle.std.proofs.Common.{ap}
use Rattle.wires.specs.Ports.{Register}
use Rattle.venued.proofs.start.Goals as goal

pub run_for-status-requires-clause-free : goal.run_for-status-requires-clause-free
run_for-status-requires-clause-free g c κs within =
    λ i x there. ap (λ (r : Register). r.out) (c.in-Ok-local_ports.ensures.ports i x there)
