use Rattle.fix_orders.proofs.ClockLemmas.{time_law}
use Rattle.fix_orders.proofs.laws.times_are_kept.Goals as goal

pub returns : goal.returns
returns c = time_law
