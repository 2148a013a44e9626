-- The crew leaves the gateways' seats as they were.
use Rattle.bench.proofs.stages_rate.path.crew_of.Goals as goal

pub returns-in-Ok-clause-gateways : goal.returns-in-Ok-clause-gateways
returns-in-Ok-clause-gateways g c = rw c.in-Ok.ensures.made.1 c.requires.seats.gateways
