-- The parts fit again, and there is room for all as before.
use Rattle.std.proofs.Common.{Some, arith}
use Rattle.price_levels.proofs.NodeLemmas.{as-long}
use Rattle.price_levels.proofs.levels.Levels.push_copy.Goals as goal

pub invariant_of-self : goal.invariant_of-self
invariant_of-self c =
    let long = as-long c.self.inside.nodes.items c.push.new.nodes.items c.push.result (Some c.args.order.now)
    c.push.ensures.places in
    let free = c.push.ensures.capacity.0 in
    let levels = c.push.ensures.capacity.1 in
    let before = c.self.invariant in (
      c.push.ensures.ladders.levels,
      omega (arith, long, free, before.1),
      omega (arith, long, levels, before.2),
      c.push.ensures.ladders.named,
    )
