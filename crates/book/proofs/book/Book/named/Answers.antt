-- What the index finds stands in the book.
use Rattle.std.proofs.Common.{subst}
use Rattle.std.specs.Prelude.{⊤, MatchOption}
use Rattle.book.specs.Books.{Book, StandsInBook}
use Rattle.book.proofs.AmendLemmas.{named-stands}
use Rattle.book.proofs.book.Book.named.Goals as goal

pub returns-clause-stands : goal.returns-clause-stands
returns-clause-stands c =
    let b : Book = record {
      limits = c.self.inside.logic;
      state = record { orders = c.self.inside.orders; greatest = c.self.inside.greatest };
      reads = c.self.inside.reads;
    } in
    subst (λ (x : Book). MatchOption c.named.result ⊤ (StandsInBook x c.args.client)) c.self.view_is
    (named-stands b c.args.client c.args.name c.named.result c.self.invariant c.named.ensures.order)
