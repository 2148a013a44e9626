-- The index finds the order of the name, where one has it.
use Rattle.std.proofs.Common.{sym, ◌∙◌}
use Rattle.book.proofs.RestingCalls.{named-at, finds-none, finds-read, stands-there}
use Rattle.book.proofs.resting.RestingOrders.named.Goals as goal

pub returns-in_err-number-clause-order : goal.returns-in_err-number-clause-order
returns-in_err-number-clause-order c =
    c.from_residual.ensures
    ∙ sym (finds-none (record { kept = c.self.invariant; list = c.self.view_is }) c.args.client c.args.name
    (sym c.find.ensures ∙ c.in_err-number.was))

pub get-requires-clause-stands : goal.get-requires-clause-stands
get-requires-clause-stands c =
    stands-there (named-at c.self.invariant c.self.view_is (sym c.find.ensures ∙ c.in_ok-number.was) c.at.ensures)

pub returns-clause-order : goal.returns-clause-order
returns-clause-order c =
    sym (finds-read (named-at c.self.invariant c.self.view_is (sym c.find.ensures ∙ c.in_ok-number.was) c.at.ensures)
    c.get.result c.get.ensures.order)
