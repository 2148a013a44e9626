use Rattle.std.proofs.Common.{ℕ, ◌+◌, ap, arith}
use Rattle.replay.proofs.LineLemmas.{appends_both, lines_on}
use Rattle.replay.proofs.lines.write_outputs.Goals as goal

pub loop-output-preserved : goal.loop-output-preserved
loop-output-preserved g c =
    let so_far = c.loop-output.invariant.written in record {
      place = ap (λ (n : ℕ). n + 1) c.loop-output.invariant.place;
      written = (
        _,
        appends_both _ _ _ so_far.0 _ so_far.1 c.in_ok-write_output.ensures,
        lines_on c.args.client c.loop-output.place c.loop-output.output-index _ c.args.outputs.now c.output-item.result
            so_far.0 _
            c.loop-output-test.true c.output-item.is (omega arith) so_far.2,
      );
    }
