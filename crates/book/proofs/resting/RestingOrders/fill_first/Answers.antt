-- The best order of the other side is filled, where it is crossed.
use Rattle.book.proofs.Fillings.{Crossed, crossed-read, fills-none-of, fills-unread, can-reduce, kept-reduced}
use Rattle.book.proofs.Fillings.{fills-part, kept-whole, fills-whole}
use Rattle.book.proofs.resting.RestingOrders.fill_first.Goals.{After-get-order}
use Rattle.book.proofs.resting.RestingOrders.fill_first.Goals as goal

it : (c : After-get-order) → Crossed c.self.inside.levels c.self.inside.index c.self.inside.count c.args.self.now
    c.args.incoming.now c.in_ok-place.place.number c.get-order.result
it c = crossed-read c.args.incoming.now (record { kept = c.self.invariant; list = c.self.view_is })
    c.opposite-side.ensures c.in_ok-place.ensures c.get-order.ensures.order c.meets.ensures c.if-not-meets.false

pub returns-in_err-place-clause-first : goal.returns-in_err-place-clause-first
returns-in_err-place-clause-first c = rw c.from_residual.ensures (fills-none-of c.self.inside.levels _
    c.args.incoming.now _ c.self.view_is c.opposite-side.ensures c.in_err-place.ensures)

pub returns-then-not-meets-clause-first : goal.returns-then-not-meets-clause-first
returns-then-not-meets-clause-first c = fills-unread c.args.incoming.now
    (record { kept = c.self.invariant; list = c.self.view_is }) c.opposite-side.ensures c.in_ok-place.ensures
    (rw c.meets.ensures at c.if-not-meets.true)

pub reduce-requires : goal.reduce-requires
reduce-requires c = can-reduce (it (goal.at.reduce-requires c).After-get-order)
    (rw c.leaves.ensures at c.if-quantity-leaves.true)

pub invariant_of-self : goal.invariant_of-self
invariant_of-self c = kept-reduced (it (goal.at.invariant_of-self c).After-get-order)
    (rw c.leaves.ensures at c.if-quantity-leaves.true) c.reduce.ensures

pub returns-then-quantity-leaves-clause-first : goal.returns-then-quantity-leaves-clause-first
returns-then-quantity-leaves-clause-first c =
    fills-part (it (goal.at.returns-then-quantity-leaves-clause-first c).After-get-order) c.leaves-quantity.ensures
    (rw c.leaves.ensures at c.if-quantity-leaves.true) c.reduce.ensures

pub invariant_of-self-2 : goal.invariant_of-self-2
invariant_of-self-2 c = kept-whole (it (goal.at.invariant_of-self-2 c).After-get-order) c.unlink.ensures.places
    c.remove.ensures.places c.remove.ensures.entries

pub returns-clause-first : goal.returns-clause-first
returns-clause-first c = fills-whole (it (goal.at.returns-clause-first c).After-get-order)
    (rw (c.leaves.ensures, c.leaves-quantity.ensures) at c.if-quantity-leaves.false) c.unlink.ensures.places
