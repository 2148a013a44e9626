use Rattle.std.proofs.Common.{rules, arith}
use Rattle.sequencer.proofs.Rooms.{looks_first, looks_next, has_looked, has_free, place_kept}
use Rattle.sequencer.proofs.put.look_for_room.Goals as goal

pub loop-gateway-init : goal.loop-gateway-init
loop-gateway-init g c = let step = c.load_taken-least.ensures in
    (search rules, looks_first g.row.M c.args.seat.now _ c.load_taken-least.result step.step step.most step.near)

pub loop-gateway-preserved : goal.loop-gateway-preserved
loop-gateway-preserved g c = let step = c.load_taken.ensures in (
  search rules,
  looks_next g.row.M c.args.seat.now c.loop-gateway.seat _ c.loop-gateway.gateway c.loop-gateway.least
      c.load_taken.result _ c.loop-gateway.invariant.1 step.step step.most step.near c.min-least.ensures,
)

pub returns-clause-looked : goal.returns-clause-looked
returns-clause-looked g c = let v = c.args.seat.now in
    let r = c.loop-gateway.invariant.1 in
    let below = r.below in
    let near = r.near in
    let kept = place_kept g.row.M v c.loop-gateway.seat c.loop-gateway.gateway c.loop-gateway.least r in
    let value = c.published.ensures.value in
    has_looked g.row.M v c.loop-gateway.seat c.loop-gateway.gateway c.loop-gateway.least g.row.G _ r (omega arith)
    (omega arith)

pub returns-clause-free : goal.returns-clause-free
returns-clause-free g c = let v = c.args.seat.now in
    let r = c.loop-gateway.invariant.1 in
    let below = r.below in
    let near = r.near in
    let kept = place_kept g.row.M v c.loop-gateway.seat c.loop-gateway.gateway c.loop-gateway.least r in
    let value = c.published.ensures.value in
    has_free g.row.M v g.row.G _ _
    (has_looked g.row.M v c.loop-gateway.seat c.loop-gateway.gateway c.loop-gateway.least g.row.G _ r (omega arith)
    (omega arith))
