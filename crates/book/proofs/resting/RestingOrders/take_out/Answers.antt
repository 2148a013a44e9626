-- The order leaves its place, and its name the index.
use Rattle.book.proofs.RestingCalls.{NamedAt, named-at, stands-there, finds-read, taken-kept, taken-orders, named-there}
use Rattle.book.proofs.resting.RestingOrders.take_out.Goals.{After-at}
use Rattle.book.proofs.resting.RestingOrders.take_out.Goals as goal

its : (c : After-at) → NamedAt c.self.inside.levels c.self.inside.index c.self.inside.count c.args.self.now
    c.args.client c.args.name c.at.result.number
its c = named-at c.self.invariant c.self.view_is c.remove-number.ensures.place c.at.ensures

pub remove-number-requires : goal.remove-number-requires
remove-number-requires c = named-there (record { kept = c.self.invariant; list = c.self.view_is }) c.args.client
    c.args.name c.requires

pub unlink-requires : goal.unlink-requires
unlink-requires c = stands-there (its (goal.at.unlink-requires c).After-at)

pub invariant_of-self : goal.invariant_of-self
invariant_of-self c = taken-kept (its (goal.at.invariant_of-self c).After-at) c.unlink.new.self c.unlink.ensures.places
    c.remove-number.new.self c.remove-number.ensures.places c.remove-number.ensures.entries

pub returns-clause-order : goal.returns-clause-order
returns-clause-order c =
    finds-read (its (goal.at.returns-clause-order c).After-at) c.unlink.result c.unlink.ensures.order

pub returns-clause-orders : goal.returns-clause-orders
returns-clause-orders c =
    taken-orders (its (goal.at.returns-clause-orders c).After-at) c.unlink.new.self c.unlink.ensures.places
