use Rattle.fix_orders.specs.RangeLaws.{reads_no_market}
use Rattle.fix_orders.proofs.laws.no_market_orders_before_the_cut.Goals as goal

pub returns : goal.returns
returns c = reads_no_market
