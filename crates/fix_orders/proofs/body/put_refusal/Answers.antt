use Rattle.fix_orders.specs.WritingLaws.{◌⨟◌}
use Rattle.fix_orders.proofs.body.put_refusal.Goals as goal

pub returns-in-BookFull-clause-puts : goal.returns-in-BookFull-clause-puts
returns-in-BookFull-clause-puts c =
    rw (c.in-Rejected.is, c.in-BookFull.is) (c.put_field-at.ensures.puts ⨟ c.put_field.ensures.puts)
