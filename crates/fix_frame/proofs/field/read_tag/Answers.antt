-- Two digits and the equals sign are the tag's own, and behind them stands all the rest.
use Rattle.std.proofs.Common.{◌≡◌, ℕ, ◌+◌, ◌-◌, ◌*◌, arith, ◌<◌, ◌≤◌, get_or}
use Rattle.std.proofs.lemmas.List.{take_rest}
use Rattle.fix_frame.proofs.NumberLemmas.{two_digits}
use Rattle.fix_frame.proofs.field.read_tag.Goals as goal

pub returns-in-49-to-57 : goal.returns-in-49-to-57
returns-in-49-to-57 c =
    let bytes = c.args.bytes.now in
    let tens : ℕ = get_or bytes 0 0 - 48 in
    let ones : ℕ = get_or bytes 1 0 - 48 in
    let first : get_or bytes 0 0 ≡ 48 + tens = omega arith in
    let second : get_or bytes 1 0 ≡ 48 + ones = omega arith in
    let sign : get_or bytes 2 0 ≡ 61 = omega arith in
    let some : 1 ≤ tens = omega arith in
    let small : tens < 10 = omega arith in
    let few : ones < 10 = omega arith in
    let tag_is : tens * 10 + ones ≡ c.from.result * 10 + c.from-in-49-to-57.result - 528 =
    omega (arith, c.from.ensures, c.from-in-49-to-57.ensures) in
    rw (take_rest bytes 3)
    (rw (← tag_is) (
      (omega arith, omega arith),
      two_digits bytes tens ones c.in-49-to-57.len_at_least first second sign some small few,
    ))
