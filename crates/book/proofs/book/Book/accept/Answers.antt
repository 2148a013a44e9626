-- The name is above all that the client's orders have.
use Rattle.std.proofs.Common.{◌-◌, ap, subst}
use Rattle.std.specs.Prelude.{slice_index}
use Rattle.book.specs.Books.{Book, NoneNamed}
use Rattle.book.proofs.BookLemmas.{book-fresh, book-accepted}
use Rattle.book.proofs.book.Book.accept.Goals as goal

pub returns-clause-fresh : goal.returns-clause-fresh
returns-clause-fresh c =
    subst (λ (b : Book). NoneNamed c.args.client c.args.name b.state.orders) c.self.view_is
    (book-fresh c.self.inside.logic.symbols c.self.inside.greatest c.args.client c.args.name c.self.inside.orders
    (rw (ap (λ (b : Book). slice_index b.state.greatest (c.args.client - 1)) c.self.view_is) c.requires.later)
    c.self.invariant.each)

pub returns-clause-book : goal.returns-clause-book
returns-clause-book c =
    book-accepted c.self.inside.logic.symbols c.self.inside.orders c.self.inside.greatest (c.args.client - 1)
    c.args.name
    (rw (ap (λ (b : Book). slice_index b.state.greatest (c.args.client - 1)) c.self.view_is) c.requires.later)
    c.self.invariant
