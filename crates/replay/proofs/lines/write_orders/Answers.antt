use Rattle.std.proofs.Common.{◌∙◌, subst, sym, arith}
use Rattle.std.specs.List.{flat_map}
use Rattle.std.specs.Io.KnownBytes.{Appends}
use Rattle.std.proofs.lemmas.List.{take_all}
use Rattle.std.proofs.lemmas.List.Sorted.{length_permutation}
use Rattle.book.specs.Listing.{listing}
use Rattle.book.proofs.OneByOne.{next_at, one_more, written_more}
use Rattle.replay.specs.Lines.{order_line}
use Rattle.replay.proofs.LineLemmas.{appends_both, none_left}
use Rattle.replay.proofs.lines.write_orders.Goals as goal

pub loop-preserved : goal.loop-preserved
loop-preserved g c = let all = listing c.args.book.now.limits.symbols c.args.book.now.state.orders in
    let next = next_at all c.loop.counter c.loop.from c.after.result c.loop.invariant.at c.after.ensures.first
    c.after.ensures.next in
    let is = sym c.in-Some.is ∙ next in
    record {
      at = one_more all c.loop.counter _ c.in-Some.order is (omega arith);
      written = subst (λ lines. Appends (g.W.Write.contents c.args.out.now) (g.W.Write.contents c.write_order.new.out)
          lines) (written_more order_line all c.loop.counter _ c.in-Some.order is (omega arith))
          (appends_both _ _ _ _ _ c.loop.invariant.written c.in_ok-write_order.ensures);
      once = λ _. c.after.ensures.once;
    }

pub returns-in_default : goal.returns-in_default
returns-in_default g c = let all = listing c.args.book.now.limits.symbols c.args.book.now.state.orders in
    let next = next_at all c.loop.counter c.loop.from c.after.result c.loop.invariant.at c.after.ensures.first
    c.after.ensures.next in
    subst (λ orders. Appends (g.W.Write.contents c.args.out.now) (g.W.Write.contents c.loop.out)
    (flat_map order_line orders))
    (none_left all c.loop.counter (sym c.in_default.is ∙ next)) c.loop.invariant.written

pub returns : goal.returns
returns g c = let all = listing c.args.book.now.limits.symbols c.args.book.now.state.orders in
    let long = length_permutation c.args.book.now.state.orders all
    (c.loop.invariant.once (omega (arith, c.loop-test.false))) in
    subst (λ orders. Appends (g.W.Write.contents c.args.out.now) (g.W.Write.contents c.loop.out)
    (flat_map order_line orders))
    (take_all c.loop.counter all (omega (arith, long, c.loop-test.false, c.requires))) c.loop.invariant.written
