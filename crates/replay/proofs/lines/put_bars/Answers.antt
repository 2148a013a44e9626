use Rattle.std.proofs.Common.{rules, get_or}
use Rattle.std.proofs.lemmas.List.Edits.{map_over_more}
use Rattle.replay.specs.Lines.{bar}
use Rattle.replay.proofs.lines.put_bars.Goals as goal

pub loop-place-preserved : goal.loop-place-preserved
loop-place-preserved c = rw (c.bar.ensures) (map_over_more bar c.args.line.now c.loop-place.line c.loop-place.place
    (get_or c.loop-place.line c.loop-place.place 0) c.loop-place-test.true c.loop-place.invariant (search rules))
