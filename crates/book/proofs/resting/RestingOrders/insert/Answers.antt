-- The order takes a free place, and its name is put into the index.
use Rattle.std.proofs.Common.{arith}
use Rattle.price_levels.specs.StampLaws.{listed-in_stamps}
use Rattle.book.proofs.RestingCalls.{has-room, not-there, later-all, inserted-orders, inserted-kept}
use Rattle.book.proofs.resting.RestingOrders.insert.Goals as goal

pub push_copy-requires-clause-room : goal.push_copy-requires-clause-room
push_copy-requires-clause-room c = has-room (record { kept = c.self.invariant; list = c.self.view_is }) c.requires.room

pub push_copy-requires-clause-later : goal.push_copy-requires-clause-later
push_copy-requires-clause-later c =
    later-all (record { kept = c.self.invariant; list = c.self.view_is }) c.args.order.now c.requires.later

pub insert-requires-clause-fresh : goal.insert-requires-clause-fresh
insert-requires-clause-fresh c =
    not-there (record { kept = c.self.invariant; list = c.self.view_is }) c.args.order.now c.requires.fresh

pub insert-requires-clause-room : goal.insert-requires-clause-room
insert-requires-clause-room c =
    let room = has-room (record { kept = c.self.invariant; list = c.self.view_is }) c.requires.room in
    omega (arith, room, c.self.invariant.size, c.self.invariant.as_many)

pub overflow_add-self : goal.overflow_add-self
overflow_add-self c =
    let room = has-room (record { kept = c.self.invariant; list = c.self.view_is }) c.requires.room in
    omega (arith, room, c.self.invariant.size, c.self.invariant.counted)

pub invariant_of-self : goal.invariant_of-self
invariant_of-self c = inserted-kept (record { kept = c.self.invariant; list = c.self.view_is }) c.args.order.now
    c.push_copy.result.number c.push_copy.ensures.within c.push_copy.ensures.free c.push_copy.new.self
    c.push_copy.ensures.places c.requires.rests c.requires.fresh c.number-number.result c.number-number.ensures
    c.insert.new.self c.insert.ensures.places c.insert.ensures.entries

pub returns-clause-comes : goal.returns-clause-comes
returns-clause-comes c = inserted-orders (record { kept = c.self.invariant; list = c.self.view_is }) c.args.order.now
    c.push_copy.result.number c.push_copy.ensures.within c.push_copy.ensures.free c.push_copy.new.self
    c.push_copy.ensures.places

pub returns-clause-stamps : goal.returns-clause-stamps
returns-clause-stamps c = listed-in_stamps c.push_copy.new.self
