use Rattle.std.proofs.Common.{◌%◌, arith}
use Rattle.fix_orders.specs.WritingLaws.{length_hundreds, puts_hundreds}
use Rattle.fix_orders.proofs.put.put_few.Goals as goal

pub put_short-last-requires-clause-room : goal.put_short-last-requires-clause-room
put_short-last-requires-clause-room c =
    omega (arith, length_hundreds c.args.n c.if-n-lt100.false c.ranges.n.fits)

pub put_two-requires : goal.put_two-requires
put_two-requires c =
    omega (arith, length_hundreds c.args.n c.if-n-lt100.false c.ranges.n.fits, c.put_short-last.ensures.long)

pub returns : goal.returns
returns c =
    puts_hundreds c.args.n (c.args.n % 100) c.if-n-lt100.false c.ranges.n.fits (omega arith) c.put_short-last.ensures
    c.put_two.ensures
