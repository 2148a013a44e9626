use Rattle.book.proofs.LawTraded.{quantity-even, money-even}
use Rattle.book.proofs.laws.what_is_bought_is_sold.Goals as goal

pub returns-clause-quantity : goal.returns-clause-quantity
returns-clause-quantity c = quantity-even

pub returns-clause-money : goal.returns-clause-money
returns-clause-money c = money-even
