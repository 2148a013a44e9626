-- Some of the orders stand as all did.
use Rattle.std.proofs.Common.{◌≡◌, ◌<◌, not, length, ap, arith}
use Rattle.venue_model.specs.declared.orders.Order.{Order}
use Rattle.venue_model.specs.Requests.{is_named}
use Rattle.book.specs.Books.{Book}
use Rattle.book.proofs.Lists.{each-filter}
use Rattle.book.proofs.NameLemmas.{found}
use Rattle.book.proofs.BookLemmas.{book-some, one-less}
use Rattle.book.proofs.book.Book.take_out.Goals as goal

pub invariant_of-self : goal.invariant_of-self
invariant_of-self c =
    rw c.take_out.ensures.orders (book-some c.self.inside.logic.symbols c.self.inside.greatest
    (λ o. not (is_named c.args.client c.args.name o)) c.self.inside.orders c.self.invariant)

pub returns-clause-below : goal.returns-clause-below
returns-clause-below c = λ sequence below.
    let orders_are : c.self.inside.orders ≡ c.args.self.now.state.orders =
    ap (λ (b : Book). b.state.orders) c.self.view_is in
    rw c.take_out.ensures.orders (each-filter (λ x. x.stamp < sequence)
    (λ o. not (is_named c.args.client c.args.name o)) c.self.inside.orders (rw orders_are below))

pub returns-clause-room : goal.returns-clause-room
returns-clause-room c =
    let os = c.self.inside.orders in
    let one = one-less c.args.client c.args.name os c.take_out.result
    (found c.args.client c.args.name os c.take_out.result c.self.invariant.apart c.take_out.ensures.order) in
    let few = c.self.invariant.standing.few in
    let less = ap (length {A = Order}) c.take_out.ensures.orders in
    omega (arith, one, few, less)
