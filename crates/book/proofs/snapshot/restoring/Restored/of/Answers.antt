use Rattle.book.proofs.OneState.{one-snapshot}
use Rattle.book.proofs.SpelledBooks.{behind_it, has-head, spells-some, spells, makes-book, comes-next}
use Rattle.book.proofs.snapshot.restoring.Restored.of.Goals as goal

pub returns-in_default-clause-bad : goal.returns-in_default-clause-bad
returns-in_default-clause-bad c _ s commands told is = c.in_default.ensures.none _ (has-head is)

pub returns-then-not-put_rows-clause-bad : goal.returns-then-not-put_rows-clause-bad
returns-then-not-put_rows-clause-bad c _ s commands told is = spells-some is c.in-Some.head c.in-Some.ensures.some
    (rw (c.symbols-symbols.ensures.value, behind_it) at (c.put_rows.ensures.none c.if-not-put_rows.true))

pub made-book-requires : goal.made-book-requires
made-book-requires c = makes-book c.in-Some.ensures.some
    (rw (c.symbols-symbols.ensures.value, behind_it) at (c.put_rows.ensures.restored c.if-not-put_rows.false))

pub returns-clause-spelled : goal.returns-clause-spelled
returns-clause-spelled c = rw c.made-book.ensures (spells c.in-Some.ensures.some
    (rw (c.symbols-symbols.ensures.value, behind_it) at (c.put_rows.ensures.restored c.if-not-put_rows.false)))

pub returns-clause-written : goal.returns-clause-written
returns-clause-written c = one-snapshot c.args.logic.symbols c.made-book.result.state c.in-Some.head.commands
    c.in-Some.head.outputs c.args.bytes.now c.symbols-symbols.ensures.table
    (rw c.made-book.ensures (c.put_rows.ensures.restored c.if-not-put_rows.false).in_time) (returns-clause-spelled c)

pub returns-clause-below : goal.returns-clause-below
returns-clause-below c = rw c.made-book.ensures (comes-next c.in-Some.ensures.some
    (rw (c.symbols-symbols.ensures.value, behind_it) at (c.put_rows.ensures.restored c.if-not-put_rows.false)))
