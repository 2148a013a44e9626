use Rattle.std.proofs.Common.{arith}
use Rattle.fix_orders.specs.WritingLaws.{length_digit, length_two, puts_two}
use Rattle.fix_orders.proofs.put.put_short.Goals as goal

pub put_digit-requires-clause-room : goal.put_digit-requires-clause-room
put_digit-requires-clause-room c = omega (arith, length_digit c.args.n c.if-n-lt10.true)

pub put_two-requires : goal.put_two-requires
put_two-requires c = omega (arith, length_two c.args.n c.if-n-lt10.false c.requires.small)

pub returns : goal.returns
returns c = puts_two c.args.n c.if-n-lt10.false c.requires.small c.put_two.ensures
