use Rattle.book.proofs.RestingCalls.{counts}
use Rattle.book.proofs.resting.RestingOrders.len.Goals as goal

pub returns : goal.returns
returns c = counts (record { kept = c.self.invariant; list = c.self.view_is })
