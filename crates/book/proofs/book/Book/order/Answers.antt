use Rattle.std.proofs.Common.{ap, ◌∙◌}
use Rattle.venue_model.specs.Requests.{named}
use Rattle.book.specs.Books.{Book}
use Rattle.book.proofs.book.Book.order.Goals as goal

pub returns : goal.returns
returns c = c.named.ensures.order
    ∙ ap (λ (b : Book). named b.state c.args.client c.args.cl_ord_id) c.self.view_is
