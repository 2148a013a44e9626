-- The order has another name and total where it stands, and the index knows it.
use Rattle.book.proofs.RestingCalls.{named-there}
use Rattle.book.proofs.Amendings.{Amends, amend-there, can-amend, less-fresh, less-room, kept-amend, amended-orders}
use Rattle.book.proofs.resting.RestingOrders.amend.Goals.{After-remove-number}
use Rattle.book.proofs.resting.RestingOrders.amend.Goals as goal

its : (c : After-remove-number) → Amends c.self.inside.levels c.self.inside.index c.self.inside.count c.args.self.now
    c.args.client c.args.name c.args.new_name c.args.total c.remove-number.result
its c = record {
  shown = record { kept = c.self.invariant; list = c.self.view_is };
  place = c.remove-number.ensures.place;
  asked = c.requires.there;
  fresh = c.requires.fresh;
}

pub remove-number-requires : goal.remove-number-requires
remove-number-requires c = named-there (record { kept = c.self.invariant; list = c.self.view_is }) c.args.client
    c.args.name (amend-there c.args.client c.args.name c.args.total c.args.self.now c.requires.there)

pub amend-requires : goal.amend-requires
amend-requires c = can-amend (its (goal.at.amend-requires c).After-remove-number) c.at.result.number c.at.ensures

pub insert-requires-clause-fresh : goal.insert-requires-clause-fresh
insert-requires-clause-fresh c = less-fresh (its (goal.at.insert-requires-clause-fresh c).After-remove-number)
    c.remove-number.new.self c.remove-number.ensures.places c.remove-number.ensures.entries

pub insert-requires-clause-room : goal.insert-requires-clause-room
insert-requires-clause-room c = less-room (its (goal.at.insert-requires-clause-room c).After-remove-number)
    c.remove-number.new.self c.remove-number.ensures.places c.remove-number.ensures.entries

pub invariant_of-self : goal.invariant_of-self
invariant_of-self c = kept-amend (its (goal.at.invariant_of-self c).After-remove-number) c.remove-number.new.self
    c.remove-number.ensures.places c.remove-number.ensures.entries c.insert.new.self c.insert.ensures.places
    c.insert.ensures.entries c.at.result.number c.at.ensures c.amend.new.self c.amend.ensures

pub returns : goal.returns
returns c = amended-orders (its (goal.at.returns c).After-remove-number) c.at.result.number c.at.ensures
    c.amend.new.self c.amend.ensures
