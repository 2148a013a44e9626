use Rattle.book.proofs.RestingDepths.{depth-listed}
use Rattle.book.proofs.resting.RestingOrders.depth.Goals as goal

pub returns : goal.returns
returns c = depth-listed c.args.symbol.now c.args.side c.args.price c.self.inside.levels _ _ c.self.view_is
    c.depth.ensures.quantity c.depth.ensures.orders
