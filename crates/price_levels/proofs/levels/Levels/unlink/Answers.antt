-- The parts fit again, and there is room for all as before.
use Rattle.std.proofs.Common.{None, arith}
use Rattle.price_levels.proofs.NodeLemmas.{as-long}
use Rattle.price_levels.proofs.levels.Levels.unlink.Goals as goal

pub invariant_of-self : goal.invariant_of-self
invariant_of-self c =
    let long = as-long c.self.inside.nodes.items c.take_out.new.nodes.items c.args.place.number None
    c.take_out.ensures.places in
    let free = c.take_out.ensures.capacity.0 in
    let levels = c.take_out.ensures.capacity.1 in
    let before = c.self.invariant in (
      c.take_out.ensures.ladders.levels,
      omega (arith, long, free, before.1),
      omega (arith, long, levels, before.2),
      c.take_out.ensures.ladders.named,
    )
