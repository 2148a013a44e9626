use Rattle.std.proofs.Common.{ℕ, List, length, ◌∙◌, ap, sym, ◌++◌, drop, take-append-drop}
use Rattle.fix_orders.specs.WritingLaws.{puts_join}
use Rattle.book.specs.Snapshots.{head_bytes}
use Rattle.book.specs.Rows.{orders_bytes}
use Rattle.book.specs.Listing.{listing}
use Rattle.book.proofs.book.Book.snapshot.Goals as goal

pub returns-clause-written : goal.returns-clause-written
returns-clause-written c =
    let all = listing c.args.self.now.limits.symbols c.args.self.now.state.orders in
    let head : ℕ → List ℕ = λ n. head_bytes c.args.commands c.args.outputs c.args.self.now.state.greatest n in
    let both = puts_join c.put_head-end.ensures.puts c.put_orders.ensures.puts in
    let front = both.written ∙ ap (λ n. head n ++ orders_bytes c.args.self.now.limits.symbols all)
    (sym c.put_orders.ensures.each) in
    sym (take-append-drop c.put_orders.result c.put_orders.new.buf)
    ∙ ap (λ bytes. bytes ++ drop c.put_orders.result c.put_orders.new.buf) front
    ∙ ap (λ rest. (head (length all) ++ orders_bytes c.args.self.now.limits.symbols all) ++ rest) both.behind
