use Rattle.book.proofs.LawLimits.{outputs-limit, trades-price}
use Rattle.book.proofs.laws.trades_keep_limits.Goals as goal

pub returns-clause-limit : goal.returns-clause-limit
returns-clause-limit c = outputs-limit

pub returns-clause-price : goal.returns-clause-price
returns-clause-price c = trades-price
