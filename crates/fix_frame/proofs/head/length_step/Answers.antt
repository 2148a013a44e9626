-- Behind the opening each byte is a digit that may follow, SOH, or wrong.
use Rattle.std.proofs.Common.{inl, inr, arith}
use Rattle.fix_frame.proofs.HeadSteps.{head_whole, odd_wrong, soh_wrong, zero_wrong, large_wrong, digit_more}
use Rattle.fix_frame.proofs.head.length_step.Goals as goal

pub returns-then-so_far-ge-LEAST_BODY : goal.returns-then-so_far-ge-LEAST_BODY
returns-then-so_far-ge-LEAST_BODY c =
    head_whole c.args.bytes.now c.args.byte c.args.so_far c.requires.late c.requires.last c.requires.heading
    (omega arith) (omega arith)

pub returns-then-not-is_ascii_digit : goal.returns-then-not-is_ascii_digit
returns-then-not-is_ascii_digit c =
    let odd = c.if-not-is_ascii_digit.ensures.cases in
    elim c.else-byte-eq-SOH.either [
      | inl w ↦ soh_wrong c.args.bytes.now c.args.byte c.args.so_far c.requires.late c.requires.last
          c.requires.heading w.0 w.1
      | inr w ↦ odd_wrong c.args.bytes.now c.args.byte c.args.so_far c.requires.late c.requires.last
          c.requires.heading w (λ low high. absurd (omega (arith, odd)))
    ]

pub returns-then-length-lt-LEAST_DIGIT : goal.returns-then-length-lt-LEAST_DIGIT
returns-then-length-lt-LEAST_DIGIT c =
    let digit = c.if-not-is_ascii_digit.ensures.cases in
    zero_wrong c.args.bytes.now c.args.byte c.args.so_far c.requires.late c.requires.last c.requires.heading digit.0
    digit.1 (omega arith)

pub returns-then-length-gt-MOST_BODY : goal.returns-then-length-gt-MOST_BODY
returns-then-length-gt-MOST_BODY c =
    let digit = c.if-not-is_ascii_digit.ensures.cases in
    large_wrong c.args.bytes.now c.args.byte c.args.so_far c.requires.late c.requires.last c.requires.heading digit.0
    digit.1 (omega arith)

pub returns : goal.returns
returns c =
    let digit = c.if-not-is_ascii_digit.ensures.cases in
    rw c.from.ensures (digit_more c.args.bytes.now c.args.byte c.args.so_far c.requires.late c.requires.last
    c.requires.heading digit.0 digit.1 (omega arith) (omega arith))
