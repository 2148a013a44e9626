use Rattle.book.proofs.LawSnapshots.{history-snapshot}
use Rattle.book.proofs.laws.a_state_can_be_a_snapshot.Goals as goal

pub returns : goal.returns
returns c = history-snapshot
