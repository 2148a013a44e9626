use Rattle.std.proofs.Common.{◌∙◌}
use Rattle.book.proofs.RestingCalls.{crosses-total}
use Rattle.book.proofs.resting.RestingOrders.crossing_total.Goals as goal

pub returns : goal.returns
returns c =
    c.crossing_total.ensures
    ∙ crosses-total (record { kept = c.self.invariant; list = c.self.view_is }) c.args.incoming.now
