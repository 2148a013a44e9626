use Rattle.venue_model.specs.HistoryLaws.{outputs-more, outputs-one, state-more}
use Rattle.book.proofs.laws.outputs_only_grow.Goals as goal

pub returns-clause-begin : goal.returns-clause-begin
returns-clause-begin c = outputs-more

pub returns-clause-one_more : goal.returns-clause-one_more
returns-clause-one_more c = outputs-one

pub returns-clause-state : goal.returns-clause-state
returns-clause-state c = state-more
