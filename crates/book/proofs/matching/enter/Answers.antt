-- A day order that crosses none joins the list at its end; what rested stays in order.
use Rattle.book.proofs.StandingLemmas.{standing-push}
use Rattle.book.proofs.Overs.{rests-whole, told-nothing, read-nothing}
use Rattle.book.proofs.matching.enter.Goals as goal

pub returns-then-none_crossed-clause-orders : goal.returns-then-none_crossed-clause-orders
returns-then-none_crossed-clause-orders c =
    rw (
      c.in-Day.is,
      rests-whole c.args.incoming.now c.args.orders.now (c.none_crossed.ensures c.if-none_crossed.true)
          c.requires.can_match.standing.each c.requires.may_come_in.some,
    ) c.push.ensures

pub returns-then-none_crossed-clause-told : goal.returns-then-none_crossed-clause-told
returns-then-none_crossed-clause-told c =
    rw c.in-Day.is (told-nothing c.args.incoming.now c.args.orders.now (c.none_crossed.ensures c.if-none_crossed.true)
    c.args.cause c.args.out.now)

pub returns-then-none_crossed-clause-standing : goal.returns-then-none_crossed-clause-standing
returns-then-none_crossed-clause-standing c =
    rw c.push.ensures (standing-push c.args.orders.now c.args.incoming.now (rw c.in-Day.is at c.requires.may_come_in)
    c.requires.can_match.standing)

pub returns-then-none_crossed-clause-reads : goal.returns-then-none_crossed-clause-reads
returns-then-none_crossed-clause-reads c =
    rw c.in-Day.is (read-nothing c.args.incoming.now c.args.orders.now (c.none_crossed.ensures c.if-none_crossed.true)
    c.args.reads.now)

pub returns-in-ImmediateOrCancel-clause-below : goal.returns-in-ImmediateOrCancel-clause-below
returns-in-ImmediateOrCancel-clause-below c = λ s behind below. c.trade_and_cancel.ensures.orders.below s below

pub returns-in-FillOrKill-clause-below : goal.returns-in-FillOrKill-clause-below
returns-in-FillOrKill-clause-below c = λ s behind below. c.trade_or_cancel.ensures.orders.below s below
