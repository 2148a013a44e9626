use Rattle.fix_orders.proofs.PairLemmas.{puts_pair}
use Rattle.fix_orders.proofs.put.put_two.Goals as goal

pub returns : goal.returns
returns c = puts_pair c.args.buf.now c.args.at c.args.n c.requires
