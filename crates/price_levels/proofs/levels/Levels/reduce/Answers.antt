-- The parts fit again, and there is room for all as before.
use Rattle.std.proofs.Common.{Some, arith}
use Rattle.price_levels.proofs.NodeLemmas.{as-long}
use Rattle.price_levels.proofs.levels.Levels.reduce.Goals as goal

pub invariant_of-self : goal.invariant_of-self
invariant_of-self c =
    let o = c.filled-order.result in
    let long = as-long c.self.inside.nodes.items c.change.new.nodes.items c.args.place.number (Some o)
    c.change.ensures.places in
    let before = c.self.invariant in
    let levels = c.change.ensures.room in (
      record {
        arena = c.change.ensures.free c.self.inside.free.items before.0.arena;
        ordered = c.change.ensures.levels;
      },
      omega (arith, long, before.1),
      omega (arith, long, levels, before.2),
      c.change.ensures.named,
    )
