-- Bytes are taken until a frame stands or the stream goes wrong.
use Rattle.std.proofs.Common.{sym, ◌∙◌, arith}
use Rattle.std.proofs.lemmas.List.{take_rest, length-drop}
use Rattle.std.proofs.lemmas.Result.{err_from_is_err_and}
use Rattle.fix_frame.proofs.FeedLemmas.{took_none, took_more, after, stopped, finished, spoilt}
use Rattle.fix_frame.proofs.framer.Framer.feed.Goals as goal

pub loop-taken-init : goal.loop-taken-init
loop-taken-init c = let right = sym c.fault.ensures.value ∙ c.in_default.is in
    record { within = omega arith; held = took_none _ _ right (c.fault.ensures.judged right) }

pub returns-then-is_whole-clause-taken : goal.returns-then-is_whole-clause-taken
returns-then-is_whole-clause-taken c =
    stopped _ _ _ _ c.loop-taken.invariant.held c.loop-taken.invariant.within c.if-is_whole.ensures

pub take-requires : goal.take-requires
take-requires c =
    let held = after _ _ _ _ c.loop-taken.invariant.held in let all = length-drop c.loop-taken.taken c.args.piece.now in
    rw (take_rest c.args.piece.now c.loop-taken.taken)
    (record { right = held; partial = c.if-is_whole.ensures; some = omega (arith, all) })

pub loop-taken-preserved : goal.loop-taken-preserved
loop-taken-preserved c =
    let takes = rw (take_rest c.args.piece.now c.loop-taken.taken) at c.in_ok-taken.ensures.ok in record {
      within = omega (arith, takes.within, length-drop c.loop-taken.taken c.args.piece.now);
      held = took_more _ _ _ _ c.loop-taken.invariant.held _ c.take.new.self c.if-is_whole.ensures takes;
    }

pub loop-taken-smaller : goal.loop-taken-smaller
loop-taken-smaller c = let some = c.in_ok-taken.ensures.ok.some in omega (arith, some)

pub returns-in_err-taken-clause-refused : goal.returns-in_err-taken-clause-refused
returns-in_err-taken-clause-refused c = let held = c.loop-taken.invariant.held in
    let p = err_from_is_err_and c.from_residual.result c.from_residual.ensures.1 in
    let wrong = rw (take_rest c.args.piece.now c.loop-taken.taken) at c.in_err-taken.ensures.wrong in
    rw (p.1, p.2) (spoilt _ _ _ _ held wrong.0 c.take.new.self _ c.in_err-taken.ensures.err wrong.2)

pub returns-clause-taken : goal.returns-clause-taken
returns-clause-taken c =
    finished _ _ _ _ c.loop-taken.invariant.held (omega (arith, c.loop-taken.invariant.within, c.loop-taken-test.false))
