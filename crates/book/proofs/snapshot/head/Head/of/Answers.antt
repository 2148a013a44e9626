use Rattle.book.proofs.RowLemmas.{four_pieces}
use Rattle.book.proofs.snapshot.head.Head.of.Goals as goal

pub returns-clause-spelled : goal.returns-clause-spelled
returns-clause-spelled c = rw (c.eight.ensures, c.eight-2.ensures, c.names_of.ensures.spelled, c.two.ensures)
    (four_pieces c.args.bytes.now c.requires)
