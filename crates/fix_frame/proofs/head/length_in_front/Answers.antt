use Rattle.std.proofs.Common.{arith}
use Rattle.fix_frame.proofs.HeadSteps.{heading_digit}
use Rattle.fix_frame.proofs.head.length_in_front.Goals as goal

pub loop-at-preserved : goal.loop-at-preserved
loop-at-preserved c =
    let digit = c.is_ascii_digit.ensures.cases in
    let is = c.if-is_ascii_digit.ensures.cases in
    record {
      late = omega arith;
      within = omega arith;
      heading = rw c.from.ensures (heading_digit c.args.bytes.now c.loop-at.at c.loop-at.so_far
          c.loop-at.invariant.late c.loop-at.invariant.within c.loop-at.invariant.heading (omega (arith, is))
          (omega (arith, is)) (omega (arith, c.from.ensures)) (omega (arith, c.from.ensures)));
    }
