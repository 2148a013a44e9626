use Rattle.book.proofs.OneState.{one-count, one-told, one-greatest, one-orders, one-state, one-snapshot}
use Rattle.book.proofs.laws.a_snapshot_spells_one_state.Goals as goal

pub returns-clause-counts : goal.returns-clause-counts
returns-clause-counts c symbols bytes s r both = (one-count symbols bytes s r both, one-told symbols bytes s r both)

pub returns-clause-orders : goal.returns-clause-orders
returns-clause-orders c symbols bytes s r both =
    (one-greatest symbols bytes s r both, one-orders symbols bytes s r both)

pub returns-clause-state : goal.returns-clause-state
returns-clause-state c = one-state

pub returns-clause-bytes : goal.returns-clause-bytes
returns-clause-bytes c = one-snapshot
