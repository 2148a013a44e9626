-- A digit stands at both places.
use Rattle.std.proofs.Common.{◌+◌, arith}
use Rattle.fix_orders.proofs.ClockLemmas.{time_digit}
use Rattle.fix_orders.proofs.time.two_at.Goals as goal

pub overflow_sub-result : goal.overflow_sub-result
overflow_sub-result c =
    let tens = time_digit c.args.time.now c.args.at c.requires.time (omega arith) c.requires.tens in
    let ones = time_digit c.args.time.now (c.args.at + 1) c.requires.time c.requires.within c.requires.ones in
    omega (arith, tens, ones)

pub returns-clause-value : goal.returns-clause-value
returns-clause-value c =
    let tens = time_digit c.args.time.now c.args.at c.requires.time (omega arith) c.requires.tens in
    let ones = time_digit c.args.time.now (c.args.at + 1) c.requires.time c.requires.within c.requires.ones in
    omega (arith, tens, ones)

pub returns-clause-small : goal.returns-clause-small
returns-clause-small c =
    let tens = time_digit c.args.time.now c.args.at c.requires.time (omega arith) c.requires.tens in
    let ones = time_digit c.args.time.now (c.args.at + 1) c.requires.time c.requires.within c.requires.ones in
    omega (arith, tens, ones)
