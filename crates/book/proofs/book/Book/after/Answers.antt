-- The next order is what the listing has there.
use Rattle.std.proofs.Common.{ap, ◌∙◌, slice_get}
use Rattle.book.specs.Books.{Book}
use Rattle.book.specs.Listing.{listing}
use Rattle.book.proofs.ListedLemmas.{book-listed, first-listed, next-listed}
use Rattle.book.proofs.book.Book.after.Goals as goal

pub returns-clause-first : goal.returns-clause-first
returns-clause-first c is =
    let first = rw c.symbols.ensures.value at (c.next.ensures.first is) in
    first-listed c.self.inside.logic.symbols c.self.inside.orders c.self.inside.greatest c.symbols.ensures.table
    c.self.invariant
    c.next.result first
    ∙ ap (λ (b : Book). slice_get (listing b.limits.symbols b.state.orders) 0) c.self.view_is

pub returns-clause-next : goal.returns-clause-next
returns-clause-next c before behind o is split =
    let found = rw c.symbols.ensures.value at (c.next.ensures.next o is) in
    next-listed c.self.inside.logic.symbols c.self.inside.orders c.self.inside.greatest c.symbols.ensures.table
    c.self.invariant
    before behind o (ap (λ (b : Book). listing b.limits.symbols b.state.orders) c.self.view_is ∙ split) c.next.result
    found

pub returns-clause-once : goal.returns-clause-once
returns-clause-once c = rw (← c.self.view_is)
    (book-listed c.self.inside.logic.symbols c.self.inside.orders c.self.inside.greatest
    c.symbols.ensures.table c.self.invariant)
