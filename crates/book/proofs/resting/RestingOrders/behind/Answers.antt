-- The next of the levels is the next in the list.
use Rattle.std.proofs.Common.{◌∙◌, sym, subst}
use Rattle.std.specs.Prelude.{MatchOption}
use Rattle.book.specs.Queues.{NoneQueuedBehind, IsQueuedNext}
use Rattle.book.proofs.RestingCalls.{NamedAt, named-at, is-there, stands-there, stands-as}
use Rattle.book.proofs.QueueLemmas.{next-none, next-some}
use Rattle.book.proofs.resting.RestingOrders.behind.Goals.{After-at}
use Rattle.book.proofs.resting.RestingOrders.behind.Goals as goal

its : (c : After-at) → NamedAt c.self.inside.levels c.self.inside.index c.self.inside.count c.args.self.now
    c.args.client c.args.name c.at.result.number
its c = named-at c.self.invariant c.self.view_is (sym c.find.ensures ∙ c.unwrap-number.ensures) c.at.ensures

pub unwrap-number-requires : goal.unwrap-number-requires
unwrap-number-requires c = is-there (record { kept = c.self.invariant; list = c.self.view_is }) c.args.client
    c.args.name c.requires c.find.result c.find.ensures

pub after-requires : goal.after-requires
after-requires c = stands-there (its (goal.at.after-requires c).After-at)

pub returns-in_err-place : goal.returns-in_err-place
returns-in_err-place c = λ o is.
    let its = its (goal.at.returns-in_err-place c).After-at in
    subst (λ r. MatchOption r (NoneQueuedBehind c.args.self.now o) (IsQueuedNext c.args.self.now o))
    (sym c.from_residual.ensures)
    (next-none its.shown c.at.result.number o (stands-as its o is) c.in_err-place.ensures)

pub returns : goal.returns
returns c = λ o is.
    let its = its (goal.at.returns c).After-at in
    next-some its.shown c.at.result.number o (stands-as its o is) c.in_ok-place.place.number c.in_ok-place.ensures
    c.get.result c.get.ensures.order
