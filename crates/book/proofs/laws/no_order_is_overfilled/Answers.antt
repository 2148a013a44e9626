use Rattle.book.proofs.LawTotals.{outputs-total}
use Rattle.book.proofs.laws.no_order_is_overfilled.Goals as goal

pub returns : goal.returns
returns c = outputs-total
