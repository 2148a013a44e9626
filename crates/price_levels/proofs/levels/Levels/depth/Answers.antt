use Rattle.std.proofs.Common.{ap, ◌∙◌}
use Rattle.std.specs.Prelude.{length, filter, sum_by}
use Rattle.venue_model.specs.Orders.{leaves}
use Rattle.price_levels.specs.Places.{Places, standing, rests_at}
use Rattle.price_levels.specs.Arena.{places_of}
use Rattle.price_levels.proofs.Depths.{left-stands, orders-stand}
use Rattle.price_levels.proofs.levels.Levels.depth.Goals as goal

pub returns-clause-quantity : goal.returns-clause-quantity
returns-clause-quantity c =
    c.depth.ensures.quantity
    ∙ left-stands c.args.symbol.now c.args.side c.args.price (places_of c.self.inside.nodes.items)
    ∙ ap (λ (ps : Places). sum_by leaves (filter (rests_at c.args.symbol.now c.args.side c.args.price) (standing ps)))
    c.self.view_is

pub returns-clause-orders : goal.returns-clause-orders
returns-clause-orders c =
    c.depth.ensures.orders
    ∙ orders-stand c.args.symbol.now c.args.side c.args.price (places_of c.self.inside.nodes.items)
    ∙ ap (λ (ps : Places). length (filter (rests_at c.args.symbol.now c.args.side c.args.price) (standing ps)))
    c.self.view_is
