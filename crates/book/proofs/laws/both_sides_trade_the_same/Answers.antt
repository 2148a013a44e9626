use Rattle.book.proofs.LawSums.{same-quantity, same-money, sum-crossed, done-sum, done-within, orders-within}
use Rattle.book.proofs.laws.both_sides_trade_the_same.Goals as goal

pub returns-clause-quantity : goal.returns-clause-quantity
returns-clause-quantity c = same-quantity

pub returns-clause-money : goal.returns-clause-money
returns-clause-money c = same-money

pub returns-clause-all : goal.returns-clause-all
returns-clause-all c = sum-crossed

pub returns-clause-most : goal.returns-clause-most
returns-clause-most c = done-sum

pub returns-clause-incoming : goal.returns-clause-incoming
returns-clause-incoming c = done-within

pub returns-clause-resting : goal.returns-clause-resting
returns-clause-resting c = orders-within
