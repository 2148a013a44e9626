use Rattle.book.specs.Rows.{row_bytes}
use Rattle.book.proofs.RowLemmas.{ten_pieces}
use Rattle.book.proofs.snapshot.row.Row.read.Goals as goal

pub returns-clause-spelled : goal.returns-clause-spelled
unfolding row_bytes
returns-clause-spelled c =
    rw (
      c.eight.ensures,
      c.one.ensures,
      c.eight-2.ensures,
      c.one-2.ensures,
      c.one-3.ensures,
      c.four.ensures,
      c.four-2.ensures,
      c.four-3.ensures,
      c.eight-3.ensures,
      c.eight-4.ensures,
    ) (ten_pieces c.args.bytes.now c.requires)
