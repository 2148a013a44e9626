-- Each byte is a digit, and the number of those in front is no greater than that of all.
use Rattle.std.proofs.Common.{◌∙◌, get_or, ap, arith}
use Rattle.std.proofs.lemmas.List.{take_all}
use Rattle.std.proofs.lemmas.Str.Parse.{digits_value-take-le}
use Rattle.fix_orders.specs.Formats.{value_of}
use Rattle.fix_orders.proofs.NumberLemmas.{digit_among, digit_is, digit_range, value_more}
use Rattle.fix_orders.proofs.number.read_digits.Goals as goal

pub overflow_mul-number : goal.overflow_mul-number
overflow_mul-number c =
    let front = digits_value-take-le 10 c.args.digits.now c.loop-byte.byte-index (omega arith) in
    omega (arith, front, c.loop-byte.invariant, c.requires.fits)

pub overflow_sub-number : goal.overflow_sub-number
overflow_sub-number c =
    let range = digit_range (get_or c.args.digits.now c.loop-byte.byte-index 0)
    (digit_among c.args.digits.now c.loop-byte.byte-index c.requires.each
    c.loop-byte-test.true) in
    omega (arith, range)

pub overflow_add-number : goal.overflow_add-number
overflow_add-number c =
    let front = digits_value-take-le 10 c.args.digits.now c.loop-byte.byte-index (omega arith) in
    omega (arith, front, c.loop-byte.invariant, c.requires.fits)

pub loop-byte-preserved : goal.loop-byte-preserved
loop-byte-preserved c =
    let is = digit_is (get_or c.args.digits.now c.loop-byte.byte-index 0)
    (digit_among c.args.digits.now c.loop-byte.byte-index c.requires.each c.loop-byte-test.true) in
    omega (arith, is, c.loop-byte.invariant, value_more _ _ c.loop-byte-test.true)

pub returns : goal.returns
returns c = c.loop-byte.invariant ∙ ap value_of (take_all _ _ c.loop-byte-test.false)
