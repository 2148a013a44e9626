use Rattle.fix_orders.specs.WritingLaws.{◌⨟◌}
use Rattle.fix_orders.proofs.body.put_cancel_reject.Goals as goal

pub returns-clause-puts : goal.returns-clause-puts
returns-clause-puts c =
    rw (← c.named_status.ensures.value, ← c.response_code.ensures.value, ← c.cancel_reject_code.ensures.value)
    (c.put_named_id-at.ensures.puts ⨟ c.put_number-at.ensures.puts ⨟ c.put_number-at-2.ensures.puts ⨟
    c.put_field-at.ensures.puts
    ⨟ c.put_field-at-2.ensures.puts ⨟ c.put_field.ensures.puts)
