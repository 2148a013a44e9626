-- stamps below the next sequence
use Rattle.book.specs.Standing.{Below}
use Rattle.book_tests.proofs.tests.asking.told.Given as goal

abbrev pub invariant-loop-place : goal.invariant-loop-place
invariant-loop-place l = Below l.place l.book.state.orders
