use Rattle.std.proofs.Common.{sym, arith}
use Rattle.sequencer.proofs.Rooms.{keeps_first, keeps_next, has_none}
use Rattle.sequencer.proofs.put.kept_room.Goals as goal

pub loop-number-init : goal.loop-number-init
loop-number-init g c = let first = c.in_ok-least.ensures in
    keeps_first c.args.rows c.args.seat.now.who c.in_ok-least.least (sym first.value) first.most

pub loop-number-preserved : goal.loop-number-preserved
loop-number-preserved g c = let next = c.in_ok-taken.ensures in
    keeps_next c.args.rows c.args.seat.now.who c.loop-number.number c.loop-number.least c.in_ok-taken.field-0 _
    c.loop-number.invariant (sym next.value) next.most c.min-least.ensures

pub returns-else-ahead-rows-clause-none : goal.returns-else-ahead-rows-clause-none
returns-else-ahead-rows-clause-none g c = let below = c.loop-number.invariant.below in
    has_none c.args.rows c.args.seat.now.who c.loop-number.number c.loop-number.least c.args.gateways
    c.loop-number.invariant (omega arith) (omega arith)
