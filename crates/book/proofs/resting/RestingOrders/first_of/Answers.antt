-- The best of the levels is the first in the list.
use Rattle.std.proofs.Common.{sym, subst}
use Rattle.std.specs.Prelude.{MatchOption}
use Rattle.book.specs.Queues.{NoneQueuedOf, IsFirst}
use Rattle.book.proofs.QueueLemmas.{first-none, first-some}
use Rattle.book.proofs.resting.RestingOrders.first_of.Goals as goal

pub returns-in_err-place : goal.returns-in_err-place
returns-in_err-place c =
    subst (λ r. MatchOption r (NoneQueuedOf c.args.symbol.now c.args.side c.args.self.now)
    (IsFirst c.args.symbol.now c.args.side c.args.self.now))
    (sym c.from_residual.ensures)
    (first-none (record { kept = c.self.invariant; list = c.self.view_is })
    c.args.symbol.now c.args.side c.in_err-place.ensures)

pub returns : goal.returns
returns c =
    first-some (record { kept = c.self.invariant; list = c.self.view_is })
    c.args.symbol.now c.args.side c.in_ok-place.place.number c.in_ok-place.ensures c.get.result c.get.ensures.order
