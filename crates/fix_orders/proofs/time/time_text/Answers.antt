use Rattle.std.proofs.Common.{◌∙◌, arith}
use Rattle.fix_orders.proofs.TimeLemmas.{time_parts, puts_all}
use Rattle.fix_orders.specs.WritingLaws.{puts_join}
use Rattle.fix_orders.proofs.time.time_text.Goals as goal

pub returns : goal.returns
returns c =
    let year = puts_join c.put_two-end.ensures c.put_two-end-2.ensures in
    let date = puts_join (puts_join (puts_join year c.put_two-end-3.ensures) c.put_two-end-4.ensures)
    c.put_bytes-end.ensures in
    let hours = puts_join (puts_join date c.put_two-end-5.ensures) c.put_bytes-end-2.ensures in
    let minutes = puts_join (puts_join hours c.put_two-end-6.ensures) c.put_bytes-end-3.ensures in
    puts_all (puts_join minutes c.put_two.ensures) (omega arith) ∙ time_parts c.args.time
