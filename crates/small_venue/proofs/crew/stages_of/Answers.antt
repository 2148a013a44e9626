-- The crew leaves the gateways' seats as they were.
use Rattle.small_venue.proofs.crew.stages_of.Goals as goal

pub returns-in-Ok-new-2-clause-spent : goal.returns-in-Ok-new-2-clause-spent
returns-in-Ok-new-2-clause-spent g c = rw c.in-Ok-new.ensures.made.1 c.requires.spent
