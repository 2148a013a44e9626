use Rattle.std.proofs.Common.{rules}
use Rattle.barrier.proofs.Looks.{shows, longer}
use Rattle.barrier.proofs.availability.available.Goals as goal

pub loop-preserved : goal.loop-preserved
loop-preserved g c = let u = c.loop.seat in let w = c.load_availability.new.seat in
    let shown = c.load_availability.ensures.fresh (search rules) in (
      search rules,
      longer g.row.N u w c.loop.counter shown c.loop.invariant.1,
      shows g.row.N c.args.seat.now u w c.loop.invariant.2 shown,
    )
