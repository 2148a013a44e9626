-- A byte of the opening is the one that is due, or wrong.
use Rattle.std.proofs.Common.{arith}
use Rattle.fix_frame.proofs.HeadSteps.{begin_wrong, length_wrong}
use Rattle.fix_frame.proofs.head.head_step.Goals as goal

pub returns-then-at-lt-BEGIN_STRING : goal.returns-then-at-lt-BEGIN_STRING
returns-then-at-lt-BEGIN_STRING c =
    begin_wrong c.args.bytes.now c.args.so_far c.requires.some (omega arith) c.requires.heading c.if-byte-at.false
    (omega arith)

pub returns : goal.returns
returns c =
    length_wrong c.args.bytes.now c.args.so_far c.requires.some (omega arith) c.requires.heading c.if-byte-at.false
    (omega arith)
