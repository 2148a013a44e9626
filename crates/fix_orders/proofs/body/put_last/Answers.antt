use Rattle.fix_orders.specs.WritingLaws.{◌⨟◌}
use Rattle.fix_orders.proofs.body.put_last.Goals as goal

pub returns-clause-puts : goal.returns-clause-puts
returns-clause-puts c = rw c.in-Trade.is (c.put_number-at.ensures.puts ⨟ c.put_number.ensures.puts)
