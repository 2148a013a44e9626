use Rattle.book.specs.Standing.{Below}
use Rattle.bench.proofs.book_rate.choose_by.Given as goal

-- the book did the turns in front
abbrev pub invariant-loop-turn : goal.invariant-loop-turn
invariant-loop-turn l = Below l.turn l.book.state.orders
