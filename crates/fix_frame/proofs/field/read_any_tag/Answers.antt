-- A byte that no tag begins with or goes on with, or a digit too many, says that none stands there.
use Rattle.std.proofs.Common.{arith}
use Rattle.fix_frame.proofs.CutLemmas.{ends_later}
use Rattle.fix_frame.proofs.NumberLemmas.{first_wrong, odd_byte, too_long, one_more}
use Rattle.fix_frame.proofs.field.read_any_tag.Goals as goal
use Rattle.fix_frame.proofs.field.read_any_tag.Goals.{then-bytes-lt49-via-then-bytes-lt49}
use Rattle.fix_frame.proofs.field.read_any_tag.Goals.{then-bytes-lt49-via-else-bytes-lt49+then-bytes-gt57}

pub returns-then-bytes-lt49 : goal.returns-then-bytes-lt49
returns-then-bytes-lt49 c =
    first_wrong c.args.bytes.now (λ low high. elim c.then-bytes-lt49.branch [
      | then-bytes-lt49-via-then-bytes-lt49 w ↦ omega arith
      | then-bytes-lt49-via-else-bytes-lt49+then-bytes-gt57 w ↦ omega arith
    ])

pub returns-then-not-is_ascii_digit : goal.returns-then-not-is_ascii_digit
returns-then-not-is_ascii_digit c =
    let odd = c.if-not-is_ascii_digit.ensures.cases in
    odd_byte c.args.bytes.now c.loop-at.at c.loop-at.tag c.loop-at.invariant.within c.loop-at.invariant.so_far
    c.loop-at-test.true
    (λ low high. absurd (omega (arith, odd)))

pub returns-then-tag-gt-MOST_FRONT : goal.returns-then-tag-gt-MOST_FRONT
returns-then-tag-gt-MOST_FRONT c =
    too_long c.args.bytes.now c.loop-at.at c.loop-at.tag c.loop-at.invariant.within c.loop-at.invariant.so_far
    c.loop-at-test.true
    c.if-tag-gt-MOST_FRONT.true

pub loop-at-preserved : goal.loop-at-preserved
loop-at-preserved c =
    let digit = c.if-not-is_ascii_digit.ensures.cases in record {
      within = ends_later c.args.bytes.now c.loop-at.at c.requires c.loop-at.invariant.within
          (λ e. omega (arith, digit));
      so_far = rw c.from.ensures (one_more c.args.bytes.now c.loop-at.at c.loop-at.tag (λ e. omega arith)
          c.loop-at.invariant.within
          c.if-tag-gt-MOST_FRONT.false c.loop-at.invariant.so_far digit.0 digit.1);
    }
