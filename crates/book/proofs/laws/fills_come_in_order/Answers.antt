use Rattle.book.proofs.LawOrder.{filled-in_order, filled-same}
use Rattle.book.proofs.laws.fills_come_in_order.Goals as goal

pub returns-clause-order : goal.returns-clause-order
returns-clause-order c = filled-in_order

pub returns-clause-all : goal.returns-clause-all
returns-clause-all c = filled-same
