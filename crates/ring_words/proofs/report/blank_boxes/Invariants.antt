use Rattle.std.proofs.Common.{◌≡◌, length}
use Rattle.ring_words.proofs.report.blank_boxes.Given as goal

abbrev pub invariant-loop-row : goal.invariant-loop-row
invariant-loop-row l = length l.boxes.items ≡ l.row
