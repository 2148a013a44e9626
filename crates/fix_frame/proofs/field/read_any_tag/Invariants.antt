-- So far the digits spell the tag, and SOH is still to come.
use Rattle.std.proofs.Common.{◌<◌, ◌-◌, length}
use Rattle.fix_frame.proofs.NumberLemmas.{SpellsSoFar}
use Rattle.fix_frame.proofs.field.read_any_tag.Given as goal

abbrev pub invariant-loop-at : goal.invariant-loop-at
invariant-loop-at l = record {
  within : l.at < length l.bytes;
  so_far : SpellsSoFar l.bytes l.at l.tag;
}

abbrev pub decreases-loop-at : goal.decreases-loop-at
decreases-loop-at l = length l.bytes - l.at
