-- The table's places keep its symbols.
use Rattle.book.proofs.TableLemmas.{keeps_table}
use Rattle.book.proofs.logic.BookLogic.of.Goals as goal

pub invariant_of-result : goal.invariant_of-result
invariant_of-result c = rw c.copy_from_slice.ensures.after
    (keeps_table c.symbols-names.result.now c.index-names-0.result c.index-names-0.is
    (rw c.symbols-names.ensures.value c.symbols-names.ensures.table))
