-- The fields are read a second time only where they ask for a market order, and then for the last time.
use Rattle.std.proofs.Common.{◌≡◌, true, ◌&&◌, if◌then◌else◌}
use Rattle.fix_frame.specs.Bodies.{fields_in}
use Rattle.fix_orders.specs.Reading.{asks_market, value_at}
use Rattle.fix_orders.proofs.command.read_fields.Given as goal

abbrev pub invariant-loop-found : goal.invariant-loop-found
invariant-loop-found l =
    l.asks_market ≡ true → (l.fn.market && asks_market (value_at 40 (fields_in l.fn.body))) ≡ true

abbrev pub decreases-loop-found : goal.decreases-loop-found
decreases-loop-found l = if l.asks_market then 0 else 1
