use Rattle.std.proofs.Common.{ap, ◌∙◌}
use Rattle.book.specs.Books.{Book}
use Rattle.book.specs.Depths.{depth_at}
use Rattle.book.proofs.book.Book.depth.Goals as goal

pub returns : goal.returns
returns c = c.depth.ensures
    ∙ ap (λ (b : Book). depth_at c.args.symbol.now c.args.side c.args.price b.state.orders) c.self.view_is
