use Rattle.fix_orders.specs.WritingLaws.{puts_join}
use Rattle.book.specs.Rows.{row_bytes}
use Rattle.book.proofs.snapshot.row.Row.put.Goals as goal

pub returns-clause-puts : goal.returns-clause-puts
unfolding row_bytes
returns-clause-puts c =
    let names = puts_join (puts_join c.put_eight-end.ensures.puts c.put_one-end.ensures.puts)
    c.put_eight-end-2.ensures.puts in
    let terms = puts_join (puts_join names c.put_one-end-2.ensures.puts) c.put_one-end-3.ensures.puts in
    let price = puts_join (puts_join terms c.put_four-end.ensures.puts) c.put_four-end-2.ensures.puts in
    puts_join (puts_join (puts_join price c.put_four-end-3.ensures.puts) c.put_eight-end-3.ensures.puts)
    c.put_eight.ensures.puts
