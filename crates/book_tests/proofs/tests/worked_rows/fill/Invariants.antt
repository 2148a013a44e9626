-- stamps below the next sequence
use Rattle.book.specs.Standing.{Below}
use Rattle.book_tests.proofs.tests.worked_rows.fill.Given as goal

abbrev pub invariant-loop-turn : goal.invariant-loop-turn
invariant-loop-turn l = Below l.turn l.book.state.orders
