-- The groups are passed one by one, up to the first that has an order.
use Rattle.std.proofs.Common.{arith}
use Rattle.book.proofs.NextLemmas.{none-yet, none-here, first-here, none-left}
use Rattle.book.proofs.listing.first_from.Goals as goal

pub loop-group-init : goal.loop-group-init
loop-group-init c = none-yet c.args.symbols.now c.args.orders.now c.args.from

pub loop-group-preserved : goal.loop-group-preserved
loop-group-preserved c =
    none-here c.args.symbols.now c.args.orders.now c.args.from c.loop-group.group c.loop-group.invariant
    c.requires.table.differ c.loop-group-test.true c.index-symbols-group.result c.side_of.result
    c.index-symbols-group.is c.side_of.ensures c.in_default.ensures

pub returns-in-Some : goal.returns-in-Some
returns-in-Some c =
    first-here c.args.symbols.now c.args.orders.now c.args.from c.loop-group.group c.loop-group.invariant
    c.requires.table.differ c.loop-group-test.true c.index-symbols-group.result c.side_of.result
    c.index-symbols-group.is c.side_of.ensures (omega arith) c.in-Some.first c.in-Some.ensures

pub returns : goal.returns
returns c =
    none-left c.args.symbols.now c.args.orders.now c.args.from c.loop-group.group c.loop-group.invariant
    c.requires.known c.loop-group-test.false
