use Rattle.std.proofs.Common.{subst, arith}
use Rattle.fix_orders.specs.Writing.{Puts}
use Rattle.fix_orders.specs.WritingLaws.{puts_join}
use Rattle.book.specs.Rows.{number_bytes}
use Rattle.book.proofs.RowLemmas.{one_further}
use Rattle.book.proofs.book.Book.put_greatest.Goals as goal

pub loop-name-preserved : goal.loop-name-preserved
loop-name-preserved c = record {
  puts = subst (Puts c.args.buf.now c.put_eight-end.new.buf c.args.at c.put_eight-end.result)
      (one_further (number_bytes 8) c.self.inside.greatest c.loop-name.name-index 0
      (omega (arith, c.loop-name-test.true, c.self.invariant.clients)))
      (puts_join c.loop-name.invariant.puts c.put_eight-end.ensures.puts);
  long = omega arith;
}
