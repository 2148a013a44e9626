-- Bytes that go wrong, or that end with their head, are no frame.
use Rattle.std.proofs.Math.Seq.{take-add}
use Rattle.fix_frame.specs.declared.stage.Stage.TheVariants.{Head}
use Rattle.fix_frame.proofs.MessageLemmas.{wrong_before, not_partial}
use Rattle.fix_frame.proofs.opening.open_body.Goals as goal

pub head_step-requires-clause-heading : goal.head_step-requires-clause-heading
head_step-requires-clause-heading c =
    let due = rw (c.split_at.ensures.front, c.split_at.ensures.back) at c.head_stride-length.ensures.heading in
    rw (take-add c.loop-at.at c.head_stride-length.result.1 c.args.bytes.now) due

pub returns : goal.returns
returns c = λ fields is.
    not_partial _ fields is (Head c.loop-at.so_far) _ c.loop-at-test.false c.loop-at.invariant.heading
    (λ body whole. absurd (cc))

pub returns-in_default : goal.returns-in_default
returns-in_default c = λ fields is. wrong_before _ fields is _ _ c.in_default.ensures
