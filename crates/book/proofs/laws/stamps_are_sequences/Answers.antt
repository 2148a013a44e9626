use Rattle.book.specs.Histories.{reads_at}
use Rattle.book.proofs.LawStamps.{state-below, history-below}
use Rattle.book.proofs.laws.stamps_are_sequences.Goals as goal

pub returns-clause-commands : goal.returns-clause-commands
returns-clause-commands c = state-below

pub returns-clause-history : goal.returns-clause-history
returns-clause-history c = λ limits. history-below (reads_at limits) limits.symbols
