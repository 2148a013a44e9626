use Rattle.fix_orders.specs.WritingLaws.{◌⨟◌}
use Rattle.fix_orders.proofs.body.put_order.Goals as goal

pub returns-clause-puts : goal.returns-clause-puts
returns-clause-puts c =
    rw (← c.as_bytes.ensures.value, ← c.side_code.ensures.value)
    (c.put_field-at.ensures.puts ⨟ c.put_field-at-2.ensures.puts ⨟ c.put_number-at.ensures.puts ⨟
    c.put_price.ensures.puts)
