use Rattle.std.proofs.Common.{rules, arith}
use Rattle.fix_orders.specs.WritingLaws.{length_four, puts_four}
use Rattle.fix_orders.proofs.put.+put_many.Goals as goal

pub put_many-last-requires : goal.put_many-last-requires
put_many-last-requires t c =
    let more = length_four c.args.n c.if-n-lt10000.false c.ranges.n.fits in (search rules, omega arith)

pub put_two-last-requires : goal.put_two-last-requires
put_two-last-requires t c =
    let more = length_four c.args.n c.if-n-lt10000.false c.ranges.n.fits in omega (arith, c.put_many-last.ensures.long)

pub put_two-requires : goal.put_two-requires
put_two-requires t c =
    let more = length_four c.args.n c.if-n-lt10000.false c.ranges.n.fits in
    omega (arith, c.put_many-last.ensures.long, c.put_two-last.ensures.long)

pub returns : goal.returns
returns t c =
    puts_four c.args.n c.if-n-lt10000.false c.ranges.n.fits c.put_many-last.ensures c.put_two-last.ensures
    c.put_two.ensures
