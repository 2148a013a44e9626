use Rattle.fix_orders.specs.ExactLaws.{exact_sound, exact_complete}
use Rattle.fix_orders.proofs.laws.exactly_one_frame.Goals as goal

pub returns-clause-found : goal.returns-clause-found
returns-clause-found c = exact_sound

pub returns-clause-each : goal.returns-clause-each
returns-clause-each c = exact_complete
