-- Each exit says why the message is no frame, or what it is if its body is a run of fields.
use Rattle.std.proofs.Common.{refl, arith}
use Rattle.std.proofs.lemmas.List.{take_rest}
use Rattle.fix_frame.proofs.OpeningLemmas.{frame_long, frame_closed, frame_summed, frame_spelled, right_frame}
use Rattle.fix_frame.proofs.OpeningLemmas.{inside_long, short_front}
use Rattle.fix_frame.proofs.opening.body_behind_head.Goals as goal

pub returns-then-bytes-end : goal.returns-then-bytes-end
returns-then-bytes-end c = λ fields is. c.if-bytes-end.true (frame_long _ _ _ c.requires fields is)

pub returns-then-not-is_closed : goal.returns-then-not-is_closed
returns-then-not-is_closed c = λ fields is.
    let rest = take_rest c.split_at.result.0.now c.args.body in let split = c.split_at.ensures in
    let due = rw (rest, split.front, split.back) at c.if-not-is_closed.ensures in
    frame_closed _ _ _ c.requires c.if-bytes-end.false fields is (λ closed. let none = due.1 closed in absurd (cc))

pub is_summed-requires-clause-short : goal.is_summed-requires-clause-short
is_summed-requires-clause-short c = rw c.split_at.ensures.front (short_front _ _ _ c.requires c.if-bytes-end.false)

pub returns-then-not-is_summed : goal.returns-then-not-is_summed
returns-then-not-is_summed c = λ fields is.
    let rest = take_rest c.split_at.result.0.now c.args.body in let split = c.split_at.ensures in
    let closed = rw (rest, split.front, split.back) at c.if-not-is_closed.ensures in
    let due = rw (c.split_at.ensures.front, c.split_at.ensures.back) at c.if-not-is_summed.ensures in
    frame_summed _ _ _ c.requires c.if-bytes-end.false fields is (closed.0 refl)
    (λ summed. let none = due.1 summed in absurd (cc))

pub returns : goal.returns
returns c = let bytes = c.args.bytes.now in
    let rest = take_rest c.split_at.result.0.now c.args.body in let split = c.split_at.ensures in
    let closed = rw (rest, split.front, split.back) at c.if-not-is_closed.ensures in
    let summed = rw (c.split_at.ensures.front, c.split_at.ensures.back) at c.if-not-is_summed.ensures in
    let long = inside_long _ _ _ c.requires c.if-bytes-end.false in
    rw (take_rest c.split_at.result.0.now c.args.body, c.split_at.ensures.front) (record {
      least = omega (arith, long, c.requires.length_is.0);
      few = omega (arith, long, c.requires.length_is.1);
      fields = frame_spelled _ _ _ c.requires c.if-bytes-end.false;
      frame = right_frame _ _ _ c.requires c.if-bytes-end.false (closed.0 refl) (summed.0 refl);
    })
