-- A digit more, and few digits bound the value.
use Rattle.std.proofs.Common.{◌≡◌, ◌+◌, ◌*◌, take, arith}
use Rattle.std.specs.Str.Parse.{digits_value}
use Rattle.edge_frames.proofs.NumberLemmas.{more_digits, front_small}
use Rattle.edge_frames.proofs.number.value.Goals as goal

pub overflow_mul-value : goal.overflow_mul-value
overflow_mul-value c =
    let more = more_digits c.args.text.now c.loop-byte.byte-index c.requires.digits (omega arith) in
    let small = front_small c.args.text.now (c.loop-byte.byte-index + 1) c.requires.few c.requires.digits in
    omega (arith, more, small, c.loop-byte.invariant)

pub overflow_add-value : goal.overflow_add-value
overflow_add-value c =
    let more = more_digits c.args.text.now c.loop-byte.byte-index c.requires.digits (omega arith) in
    let small = front_small c.args.text.now (c.loop-byte.byte-index + 1) c.requires.few c.requires.digits in
    omega (arith, more, small, c.loop-byte.invariant, c.from.ensures)

pub loop-byte-preserved : goal.loop-byte-preserved
loop-byte-preserved c =
    let more = more_digits c.args.text.now c.loop-byte.byte-index c.requires.digits (omega arith) in
    let step : c.loop-byte.value * 10 + c.from.result ≡
    digits_value 10 (take (c.loop-byte.byte-index + 1) c.args.text.now) = omega (
      arith,
      more,
      c.loop-byte.invariant,
      c.from.ensures,
    ) in
    step

pub returns-clause-small : goal.returns-clause-small
returns-clause-small c =
    let small = front_small c.args.text.now c.loop-byte.byte-index c.requires.few c.requires.digits in
    omega (arith, small, c.loop-byte.invariant)
