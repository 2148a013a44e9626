use Rattle.venue_model.specs.HistoryLaws.{few-resting, few-outputs}
use Rattle.book.proofs.laws.the_book_is_bounded.Goals as goal

pub returns-clause-resting : goal.returns-clause-resting
returns-clause-resting c = few-resting

pub returns-clause-outputs : goal.returns-clause-outputs
returns-clause-outputs c = few-outputs
