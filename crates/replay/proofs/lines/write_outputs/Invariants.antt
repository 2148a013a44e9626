use Rattle.std.proofs.Common.{◌≡◌, ◌++◌, ℕ, List, drop}
use Rattle.std.specs.Io.KnownBytes.{Appends}
use Rattle.replay.specs.Lines.{client_lines}
use Rattle.replay.proofs.lines.write_outputs.Given as goal

-- what was written so far, and the lines that are left, are all lines
abbrev pub invariant-loop-output : goal.invariant-loop-output
invariant-loop-output g l = record {
  place : l.place ≡ l.output-index;
  written : (more : List ℕ) × Appends (g.W.Write.contents l.fn.out) (g.W.Write.contents l.out) more
      × (more ++ client_lines l.client l.place (drop l.output-index l.outputs) ≡ client_lines l.client 0 l.outputs);
}
