use Rattle.book.proofs.LawOrderly.{state-uncrossed, history-uncrossed, state-rising, state-orderly, step-orderly}
use Rattle.book.proofs.laws.the_book_is_never_crossed.Goals as goal

pub returns-clause-uncrossed : goal.returns-clause-uncrossed
returns-clause-uncrossed c = state-uncrossed

pub returns-clause-history : goal.returns-clause-history
returns-clause-history c = history-uncrossed

pub returns-clause-rising : goal.returns-clause-rising
returns-clause-rising c = state-rising

pub returns-clause-orderly : goal.returns-clause-orderly
returns-clause-orderly c = state-orderly

pub returns-clause-kept : goal.returns-clause-kept
returns-clause-kept c = step-orderly
