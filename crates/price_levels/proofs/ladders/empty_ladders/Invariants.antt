-- So many ladders stand there, and there is room for all.
use Rattle.std.proofs.Common.{◌≡◌, ◌≤◌, length, vec_capacity}
use Rattle.std.specs.List.{AllByRecursion}
use Rattle.price_levels.specs.Ladders.{IsEmpty}
use Rattle.price_levels.proofs.ladders.empty_ladders.Given as goal

abbrev pub invariant-ladders : goal.invariant-ladders
invariant-ladders l = (length l.ladders.items ≡ l.counter)
    × (AllByRecursion (IsEmpty l.room) l.ladders.items × (l.count ≤ vec_capacity l.ladders))
