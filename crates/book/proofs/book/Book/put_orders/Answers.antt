use Rattle.std.proofs.Common.{◌+◌, length, ap, ◌∙◌, arith}
use Rattle.std.proofs.lemmas.List.{take_all}
use Rattle.std.proofs.lemmas.List.Sorted.{length_permutation}
use Rattle.fix_orders.specs.WritingLaws.{puts_join}
use Rattle.venue_model.specs.declared.orders.Order.{Order}
use Rattle.book.specs.Books.{Book}
use Rattle.book.specs.Listing.{listing}
use Rattle.book.specs.Rows.{row_of, row_bytes}
use Rattle.book.specs.Standing.{Rests}
use Rattle.book.proofs.ListedLemmas.{book-listed}
use Rattle.book.proofs.OneByOne.{has_next, next_is, next_has, one_more, written_more}
use Rattle.book.proofs.RestoredOrders.{each-permuted}
use Rattle.book.proofs.book.Book.put_orders.Goals as goal

pub unwrap-order-requires : goal.unwrap-order-requires
unwrap-order-requires c =
    let long = length_permutation _ _ c.after.ensures.once in
    let rest = ap (λ (b : Book). length b.state.orders) c.self.view_is in
    has_next _ c.loop.counter c.loop.invariant.at c.after.ensures.first c.after.ensures.next
    (omega (arith, long, rest, c.loop-test.true, c.len-end.ensures))

pub of-requires-clause-range : goal.of-requires-clause-range
of-requires-clause-range c =
    let is = next_is _ c.loop.counter c.loop.invariant.at c.after.ensures.first c.after.ensures.next
    c.unwrap-order.ensures in
    (next_has Rests _ c.loop.counter _ is (each-permuted Rests _ _ c.after.ensures.once
    (rw (← c.self.view_is) c.self.invariant.standing.each))).in_range

pub loop-preserved : goal.loop-preserved
loop-preserved c =
    let symbols = c.args.self.now.limits.symbols in let all = listing symbols c.args.self.now.state.orders in
    let is = next_is all c.loop.counter c.loop.invariant.at c.after.ensures.first c.after.ensures.next
    c.unwrap-order.ensures in
    let table = c.symbols-symbols.ensures.value ∙ ap (λ (b : Book). b.limits.symbols) c.self.view_is in
    let more = written_more (λ (o : Order). row_bytes (row_of symbols o)) all c.loop.counter (c.loop.counter + 1)
    c.unwrap-order.result is (omega arith) in
    record {
      at = one_more all c.loop.counter _ c.unwrap-order.result is (omega arith);
      puts = rw more at (puts_join c.loop.invariant.puts (rw (c.of.ensures, table) at c.put-upto.ensures.puts));
      long = omega arith;
    }

pub returns-clause-each : goal.returns-clause-each
returns-clause-each c = rw (← c.self.view_is)
    (length_permutation _ _ (book-listed c.self.inside.logic.symbols c.self.inside.orders c.self.inside.greatest
    c.symbols-symbols.ensures.table c.self.invariant))

pub returns-clause-puts : goal.returns-clause-puts
returns-clause-puts c =
    let rest = ap (λ (b : Book). length b.state.orders) c.self.view_is in
    let all = listing c.args.self.now.limits.symbols c.args.self.now.state.orders in
    rw (take_all c.loop.counter all (omega (arith, returns-clause-each c, rest, c.loop-test.false, c.len-end.ensures)))
    at c.loop.invariant.puts
