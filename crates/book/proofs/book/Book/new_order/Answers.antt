-- The order that comes in is in a symbol of the venue, and behind all others.
use Rattle.std.proofs.Common.{rules, ◌≡◌, ap, sym, ◌∙◌, arith}
use Rattle.venue_model.specs.declared.orders.Order.{Order}
use Rattle.book.proofs.RequestLemmas.{known-new, limit-rests, price-most}
use Rattle.book.proofs.book.Book.new_order.Goals as goal

pub admit-requires-clause-known : goal.admit-requires-clause-known
admit-requires-clause-known c =
    let symbol : c.entering-order.result.symbol ≡ c.args.request.now.symbol =
    ap (λ (o : Order). o.symbol) c.entering-order.ensures in
    rw symbol (known-new c.args.self.now.limits.symbols c.args.self.now.state c.args.cause.gateway c.args.request.now
    (sym c.new_refusal.ensures ∙ c.in_default.is))

pub admit-requires-clause-may_come_in : goal.admit-requires-clause-may_come_in
admit-requires-clause-may_come_in c =
    let n = c.args.request.now in
    record {
      in_range = rw c.entering-order.ensures (record {
        cum = omega arith;
        total = c.requires.quantity.1;
        price = price-most n.side n.ord_type c.requires.price;
        notional = omega arith;
      });
      some = rw c.entering-order.ensures (omega arith);
      behind = rw c.entering-order.ensures c.requires.next.behind;
      place = search rules;
      limit = λ day. rw c.entering-order.ensures (limit-rests n (rw c.terms.ensures at day));
    }

pub returns-clause-state : goal.returns-clause-state
returns-clause-state c =
    let stamp : c.entering-order.result.stamp ≡ c.args.cause.sequence =
    ap (λ (o : Order). o.stamp) c.entering-order.ensures in
    record { book = search rules; below = rw stamp at c.admit.ensures.state.below }
