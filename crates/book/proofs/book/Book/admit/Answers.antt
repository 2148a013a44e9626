-- The order came in under its name.
use Rattle.std.proofs.Common.{rules, ◌≡◌, ◌+◌, ap, ◌∙◌, arith}
use Rattle.venue_model.specs.Requests.{greatest_of}
use Rattle.book.specs.Books.{Book}
use Rattle.book.proofs.BookLemmas.{book-entered}
use Rattle.book.proofs.StandingLemmas.{below_more}
use Rattle.book.proofs.book.Book.admit.Goals as goal

pub invariant_of-self : goal.invariant_of-self
invariant_of-self c =
    let i = c.args.order.now in
    let accepted_is = c.self.view_is ∙ c.accept.ensures.value in
    let symbols_are : c.self.inside.logic.symbols ≡ c.args.self.now.limits.symbols =
    ap (λ (b : Book). b.limits.symbols) accepted_is in
    let orders_are : c.self.inside.orders ≡ c.args.self.now.state.orders =
    ap (λ (b : Book). b.state.orders) accepted_is in
    let greatest = ap (λ (b : Book). greatest_of b.state i.client) c.self.view_is ∙ c.accept.ensures.greatest in
    rw c.enter.ensures.orders (book-entered c.self.inside.logic.symbols c.self.inside.greatest i c.self.inside.orders
    c.self.invariant
    (record {
      from = c.requires.name.from;
      to = c.requires.name.to;
      name = omega (arith, greatest);
      symbol = rw symbols_are c.requires.known;
    })
    (rw orders_are c.accept.ensures.fresh) c.args.terms (rw (← c.enter.ensures.orders) c.enter.ensures.standing))

pub returns-clause-state : goal.returns-clause-state
returns-clause-state c =
    let orders_are : c.self.inside.orders ≡ c.args.self.now.state.orders =
    ap (λ (b : Book). b.state.orders) (c.self.view_is ∙ c.accept.ensures.value) in
    let stamp = c.args.order.now.stamp in
    record {
      book = search rules;
      below = c.enter.ensures.below (stamp + 1) (omega arith)
          (rw orders_are (below_more c.args.self.now.state.orders stamp c.requires.may_come_in.behind));
    }
