use Rattle.book.proofs.LawTotals.{filled-whole, untouched, told-canceled}
use Rattle.book.proofs.laws.fill_or_kill_is_whole.Goals as goal

pub returns-clause-whole : goal.returns-clause-whole
returns-clause-whole c = filled-whole

pub returns-clause-untouched : goal.returns-clause-untouched
returns-clause-untouched c = untouched

pub returns-clause-told : goal.returns-clause-told
returns-clause-told c = told-canceled
