-- What is left of a day order joins the list at its end; what rested stays in order.
use Rattle.std.proofs.Common.{◌≡◌, refl, ap, ◌∙◌, arith}
use Rattle.venue_model.specs.declared.orders.Order.{Order}
use Rattle.book.specs.Standing.{Below}
use Rattle.book.proofs.BookLemmas.{none-rest}
use Rattle.book.proofs.StandingLemmas.{standing-push, below-push}
use Rattle.book.proofs.matching.trade_and_rest.Goals.{After-sweep}
use Rattle.book.proofs.matching.trade_and_rest.Goals as goal

stamp : (c : After-sweep) → c.sweep.new.incoming.stamp ≡ c.args.incoming.now.stamp
stamp c = ap (λ (o : Order). o.stamp) c.sweep.ensures.done

behind : (c : After-sweep) → Below c.sweep.new.incoming.stamp c.sweep.new.orders
behind c = rw (stamp c) (c.sweep.ensures.orders.below c.args.incoming.now.stamp c.requires.may_come_in.behind)

pub push-requires-clause-behind : goal.push-requires-clause-behind
push-requires-clause-behind c = behind (goal.at.push-requires-clause-behind c).After-sweep

pub push-requires-clause-fresh : goal.push-requires-clause-fresh
push-requires-clause-fresh c =
    rw (ap (λ (o : Order). o.client) c.sweep.ensures.done, ap (λ (o : Order). o.cl_ord_id) c.sweep.ensures.done)
    (rw c.sweep.ensures.orders.orders (none-rest c.args.incoming.now _ _ _ c.requires.fresh))

pub returns-then-leaves-ne0-clause-standing : goal.returns-then-leaves-ne0-clause-standing
returns-then-leaves-ne0-clause-standing c =
    rw c.push.ensures (standing-push c.sweep.new.orders c.sweep.new.incoming (record {
      in_range = c.sweep.ensures.in_range;
      some = omega (arith, c.if-leaves-ne0.true, c.leaves.ensures);
      behind = behind (goal.at.returns-then-leaves-ne0-clause-standing c).After-sweep;
      place = λ day. omega (arith, c.requires.may_come_in.place refl, c.sweep.ensures.orders.no_longer);
      limit = λ day. ap (λ (o : Order). o.is_market) c.sweep.ensures.done ∙ c.requires.may_come_in.limit refl;
    }) c.sweep.ensures.orders.standing)

pub returns-then-leaves-ne0-clause-below : goal.returns-then-leaves-ne0-clause-below
returns-then-leaves-ne0-clause-below c = λ s later below. rw c.push.ensures
    (below-push c.sweep.new.orders c.sweep.new.incoming s (rw (stamp (goal.at.returns-then-leaves-ne0-clause-below
    c).After-sweep) later) (c.sweep.ensures.orders.below s below))

pub returns-else-leaves-ne0-clause-below : goal.returns-else-leaves-ne0-clause-below
returns-else-leaves-ne0-clause-below c = λ s behind below. c.sweep.ensures.orders.below s below
