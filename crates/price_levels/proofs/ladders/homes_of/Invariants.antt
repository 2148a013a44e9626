-- Each of the homes is one, whichever symbols have theirs so far.
use Rattle.std.specs.List.{AllByRecursion}
use Rattle.price_levels.specs.Ladders.{IsHomeOf}
use Rattle.price_levels.proofs.ladders.homes_of.Given as goal

abbrev pub invariant-symbols : goal.invariant-symbols
invariant-symbols l = AllByRecursion (IsHomeOf l.fences) l.homes.items
