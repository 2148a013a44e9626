use Rattle.fix_orders.specs.WritingLaws.{◌⨟◌}
use Rattle.fix_orders.proofs.body.put_event.Goals as goal

pub returns-clause-puts : goal.returns-clause-puts
returns-clause-puts c =
    rw (← c.exec_code.ensures.value, ← c.status_code.ensures.value)
    (c.put_number-at.ensures.puts ⨟ c.put_number-at-2.ensures.puts ⨟ c.put_field-at.ensures.puts ⨟
    c.put_field-at-2.ensures.puts ⨟ c.put_number.ensures.puts)
