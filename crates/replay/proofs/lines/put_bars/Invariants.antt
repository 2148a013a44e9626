use Rattle.std.proofs.Common.{◌≡◌, ◌++◌, map, take, drop}
use Rattle.replay.specs.Lines.{bar}
use Rattle.replay.proofs.lines.put_bars.Given as goal

abbrev pub invariant-loop-place : goal.invariant-loop-place
invariant-loop-place l = l.line ≡ map bar (take l.place l.fn.line) ++ drop l.place l.fn.line
