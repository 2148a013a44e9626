-- So far the front of the piece is held.
use Rattle.std.proofs.Common.{◌≤◌, ◌-◌, length}
use Rattle.fix_frame.proofs.FeedLemmas.{HasTaken}
use Rattle.fix_frame.proofs.framer.Framer.feed.Given as goal

abbrev pub invariant-loop-taken : goal.invariant-loop-taken
invariant-loop-taken l = record {
  within : l.taken ≤ length l.piece;
  held : HasTaken l.fn.self l.self l.piece l.taken;
}

abbrev pub decreases-loop-taken : goal.decreases-loop-taken
decreases-loop-taken l = length l.piece - l.taken
