use Rattle.fix_orders.specs.WritingLaws.{◌⨟◌}
use Rattle.fix_orders.proofs.body.put_execution_report.Goals as goal

pub returns-clause-puts : goal.returns-clause-puts
returns-clause-puts c =
    c.put_event-at.ensures.puts ⨟ c.put_orig-at.ensures.puts ⨟ c.put_order-at.ensures.puts ⨟ c.put_last-at.ensures.puts
    ⨟ c.put_filled-at.ensures.puts ⨟ c.put_refusal.ensures.puts
