use Rattle.fix_orders.specs.RangeLaws.{command_within, reads_within}
use Rattle.fix_orders.proofs.laws.numbers_are_in_range.Goals as goal

pub returns-clause-bytes : goal.returns-clause-bytes
returns-clause-bytes c = reads_within

pub returns-clause-fields : goal.returns-clause-fields
returns-clause-fields c = command_within
