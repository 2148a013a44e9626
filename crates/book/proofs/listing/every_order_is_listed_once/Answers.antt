use Rattle.book.proofs.ListedLemmas.{book-listed}
use Rattle.book.proofs.listing.every_order_is_listed_once.Goals as goal

pub returns : goal.returns
returns c = book-listed
