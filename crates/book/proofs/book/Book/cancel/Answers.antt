-- The others came before this sequence, so before the next one.
use Rattle.std.proofs.Common.{rules, ap}
use Rattle.book.specs.Books.{Book}
use Rattle.book.proofs.StandingLemmas.{below_more}
use Rattle.book.proofs.book.Book.cancel.Goals as goal

pub returns-clause-state : goal.returns-clause-state
returns-clause-state c = record {
  book = search rules;
  below = rw (ap (λ (b : Book). b.state.orders) c.accept.ensures.value)
      (below_more c.take_out.new.self.state.orders c.args.cause.sequence
      (c.take_out.ensures.below c.args.cause.sequence c.requires.next.behind));
}
