use Rattle.book.specs.Standing.{Below}
use Rattle.bench.proofs.book_rate.run.Given as goal

-- the book did what stands in front
abbrev pub invariant-loop-sequence : goal.invariant-loop-sequence
invariant-loop-sequence l = Below l.sequence l.book.state.orders
