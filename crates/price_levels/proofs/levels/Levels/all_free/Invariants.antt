-- The places so far are free.
use Rattle.std.proofs.Common.{◌≤◌, vec_capacity}
use Rattle.price_levels.proofs.EmptyLemmas.{AreFirst}
use Rattle.price_levels.proofs.levels.Levels.all_free.Given as goal

abbrev pub invariant-loop-place : goal.invariant-loop-place
invariant-loop-place l = AreFirst l.free.items l.place × (l.cap ≤ vec_capacity l.free)
