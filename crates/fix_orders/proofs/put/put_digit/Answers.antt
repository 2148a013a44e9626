use Rattle.fix_orders.specs.WritingLaws.{puts_digit}
use Rattle.fix_orders.proofs.put.put_digit.Goals as goal

pub returns : goal.returns
returns c = puts_digit c.args.buf.now c.args.at c.args.digit c.requires.small c.requires.room
