-- Two fences for each symbol so far, and room for those of all.
use Rattle.std.proofs.Common.{◌≡◌, ◌≤◌, ◌*◌, length, vec_capacity}
use Rattle.price_levels.proofs.ladders.fences_of.Given as goal

abbrev pub invariant-symbols : goal.invariant-symbols
invariant-symbols l = (length l.fences.items ≡ 2 * l.symbol-index) × (2 * length l.symbols ≤ vec_capacity l.fences)
