use Rattle.std.proofs.Common.{subst, ◌∙◌, ap, length}
use Rattle.fix_orders.specs.Writing.{Puts}
use Rattle.fix_orders.specs.WritingLaws.{puts_join}
use Rattle.book.specs.Books.{Book}
use Rattle.book.specs.Snapshots.{head_bytes}
use Rattle.book.proofs.book.Book.put_head.Goals as goal

pub returns-clause-puts : goal.returns-clause-puts
returns-clause-puts c =
    let counts = puts_join c.put_eight-end.ensures.puts c.put_eight-end-2.ensures.puts in
    let resting = c.len.ensures ∙ ap (λ (b : Book). length b.state.orders) c.self.view_is in
    subst (λ n. Puts c.args.buf.now c.put_two.new.buf 0 c.put_two.result
    (head_bytes c.args.commands c.args.outputs c.args.self.now.state.greatest n)) resting
    (puts_join (puts_join counts c.put_greatest-end.ensures.puts) c.put_two.ensures.puts)
