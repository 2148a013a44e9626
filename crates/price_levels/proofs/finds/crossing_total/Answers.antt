-- The levels of the other side, from the best price on.
use Rattle.std.proofs.Common.{subst, ◌∙◌, arith}
use Rattle.venue_model.specs.declared.orders.Side.{Side}
use Rattle.price_levels.specs.Ladders.{IsHome, all, rung_number}
use Rattle.price_levels.proofs.Crossings.{total-is, crossing-fits}
use Rattle.price_levels.proofs.finds.crossing_total.Goals as goal

pub crossed_left-requires : goal.crossed_left-requires
crossed_left-requires c =
    let l = c.args.ladders.now in
    let from = c.search_side-first in
    let is = total-is c.args.symbol.now c.args.side c.opposite.result c.args.price c.args.nodes.now.items (all l)
    (rung_number l from.result.0)
    c.requires c.opposite.ensures from.ensures.before from.ensures.behind in
    let fits = crossing-fits c.args.symbol.now c.args.side c.args.price c.args.nodes.now.items (all l) c.requires in
    record {
      rung = from.ensures.rung;
      home = subst (λ (d : Side). IsHome l from.result.0 c.args.symbol.now d) c.opposite.ensures from.ensures.home;
      fits = omega (arith, is, fits);
    }

pub returns : goal.returns
returns c =
    let l = c.args.ladders.now in
    let from = c.search_side-first in
    c.crossed_left.ensures ∙ total-is c.args.symbol.now c.args.side c.opposite.result c.args.price
    c.args.nodes.now.items (all l)
    (rung_number l from.result.0) c.requires c.opposite.ensures from.ensures.before from.ensures.behind
