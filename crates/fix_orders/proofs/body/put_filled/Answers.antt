use Rattle.fix_orders.specs.WritingLaws.{◌⨟◌}
use Rattle.fix_orders.proofs.body.put_filled.Goals as goal

pub returns-clause-puts : goal.returns-clause-puts
returns-clause-puts c =
    rw (← c.leaves_after.ensures, ← c.average.ensures)
    (c.put_number-at.ensures.puts ⨟ c.put_number-at-2.ensures.puts ⨟ c.put_number.ensures.puts)
