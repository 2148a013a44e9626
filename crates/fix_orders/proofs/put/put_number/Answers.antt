use Rattle.fix_orders.specs.WritingLaws.{puts_field}
use Rattle.fix_orders.proofs.put.put_number.Goals as goal

pub returns-clause-puts : goal.returns-clause-puts
returns-clause-puts c =
    puts_field c.args.tag _ c.put_digits-end.ensures c.put_bytes-end.ensures c.put_digits-end-2.ensures
    c.put_bytes.ensures
