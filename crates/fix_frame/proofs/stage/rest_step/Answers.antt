-- All of the message is there, and the answer is that of its end.
use Rattle.std.proofs.Common.{◌≤◌, ◌+◌, length, arith}
use Rattle.std.proofs.lemmas.List.{take_rest}
use Rattle.std.proofs.lemmas.Result.{err_from_is_err_and}
use Rattle.fix_frame.proofs.RestSteps.{resting_small, front_is, rest_wrong, rest_whole}
use Rattle.fix_frame.proofs.stage.rest_step.Goals as goal

pub judge-requires-clause-short : goal.judge-requires-clause-short
judge-requires-clause-short c =
    let small = resting_small _ _ _ c.requires.resting in
    omega (arith, c.split_at.ensures.front_len, c.from.ensures, small.0, small.1)

pub returns-in_err-judge : goal.returns-in_err-judge
returns-in_err-judge c =
    let bytes = c.args.bytes.now in
    let all : c.args.body + c.args.count + 7 ≤ length bytes = omega arith in
    let due = rw (
      take_rest c.split_at.result.0.now c.args.body,
      c.split_at.ensures.front,
      c.split_at.ensures.back,
      c.from.ensures,
    ) at c.in_err-judge.ensures in
    let p = err_from_is_err_and c.from_residual.result c.from_residual.ensures.1 in
    let faulty = due c.args.count (front_is bytes c.args.body c.args.count c.requires.some c.requires.resting all) in
    rw (p.1, p.2) (rest_wrong bytes c.args.body c.args.count c.requires.some c.requires.resting all _ faulty)

pub returns : goal.returns
returns c =
    let bytes = c.args.bytes.now in
    let all : c.args.body + c.args.count + 7 ≤ length bytes = omega arith in
    let due = rw (
      take_rest c.split_at.result.0.now c.args.body,
      c.split_at.ensures.front,
      c.split_at.ensures.back,
      c.from.ensures,
    ) at c.in_ok-judge.ensures in
    let right = due c.args.count (front_is bytes c.args.body c.args.count c.requires.some c.requires.resting all) in
    rest_whole bytes c.args.body c.args.count c.requires.some c.requires.resting all right
