-- No order of the groups so far.
use Rattle.book.proofs.NextLemmas.{NoneUpTo}
use Rattle.book.proofs.listing.first_from.Given as goal

abbrev pub invariant-loop-group : goal.invariant-loop-group
invariant-loop-group l = NoneUpTo l.symbols l.orders l.from l.group
