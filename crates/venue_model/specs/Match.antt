-- A match of an incoming order against the orders that rest (docs/PROFILE.md, "Matching"). Fills are a minimum
-- over a sum; nothing here goes from order to order.
use Rattle.std.specs.Prelude.{ℕ, ◌+◌, ◌-◌, ◌*◌, min, Bool, not, nat_lt, nat_le, List, [], ◌∷◌, ◌++◌, map, filter, sum_by, if◌then◌else◌, None}
use Rattle.std.specs.List.{flat_map}
use Rattle.venue_model.specs.declared.orders.Order.{Order}
use Rattle.venue_model.specs.declared.commands.TimeInForce.{TimeInForce}
use Rattle.venue_model.specs.declared.commands.TimeInForce.TheVariants.{Day, ImmediateOrCancel, FillOrKill}
use Rattle.venue_model.specs.declared.outputs.Cause.{Cause}
use Rattle.venue_model.specs.declared.outputs.ExecType.{ExecType}
use Rattle.venue_model.specs.declared.outputs.ExecType.TheVariants.{Trade, Canceled}
use Rattle.venue_model.specs.declared.outputs.Report.{Report}
use Rattle.venue_model.specs.declared.outputs.Report.TheVariants.{Exec}
use Rattle.venue_model.specs.declared.outputs.Output.{Output}
use Rattle.venue_model.specs.Orders.{leaves, is_live, crosses, ahead}

-- an output of this cause to a gateway
abbrev pub output : Cause → ℕ → Report → Output
output c gateway report = record { «to» = gateway; cause = c.sequence; sending_time = c.sending_time; report = report }

-- the execution report of an order, to its client
abbrev pub exec : Cause → ExecType → Order → Output
exec c kind o = output c o.client (Exec (record { exec_type = kind; order = o }))

-- the orders that an incoming order crosses
abbrev pub crossing : Order → List Order → List Order
crossing incoming orders = filter (crosses incoming) orders

-- what the orders of a queue that stand ahead of one have left
abbrev pub leaves_ahead : List Order → Order → ℕ
leaves_ahead queue o = sum_by leaves (filter (λ x. ahead x o) queue)

-- how much of a quantity one order of a queue fills: what the orders ahead of it leave of it, and no more than it has
abbrev pub fill : ℕ → List Order → Order → ℕ
fill quantity queue o = min (leaves o) (quantity - leaves_ahead queue o)

-- an order after a fill at a price
abbrev pub filled : Order → ℕ → ℕ → Order
filled o quantity price = record o { cum = o.cum + quantity; notional = o.notional + quantity * price }

-- a resting order after its fill, at its own price
abbrev pub after_fill : ℕ → List Order → Order → Order
after_fill quantity queue o = filled o (fill quantity queue o) o.price

-- the incoming order after its fills with some orders of the queue
abbrev pub after_fills : Order → List Order → List Order → Order
after_fills incoming queue some = record incoming {
  cum = incoming.cum + sum_by (λ o. fill (leaves incoming) queue o) some;
  notional = incoming.notional + sum_by (λ o. fill (leaves incoming) queue o * o.price) some;
}

-- the incoming order when the match is over
abbrev pub done : Order → List Order → Order
done incoming orders = after_fills incoming (crossing incoming orders) (crossing incoming orders)

-- an order after the match: filled where it is crossed, else as it was
abbrev pub settled : Order → List Order → Order → Order
settled incoming queue o = if crosses incoming o then after_fill (leaves incoming) queue o else o

-- the resting orders when the match is over: those with nothing left are gone
abbrev pub rest : Order → List Order → List Order
rest incoming orders = filter is_live (map (settled incoming (crossing incoming orders)) orders)

-- an order put into a list that stands in order of priority
abbrev pub insert_by_priority : Order → List Order → List Order
insert_by_priority o [] = o ∷ []
insert_by_priority o (x ∷ xs) = if ahead o x then o ∷ x ∷ xs else x ∷ insert_by_priority o xs

-- the same orders, each ahead of the next
abbrev pub by_priority : List Order → List Order
by_priority [] = []
by_priority (o ∷ os) = insert_by_priority o (by_priority os)

-- the two reports of one fill, the resting side's first
abbrev pub trade : Cause → Order → List Order → Order → List Output
trade c incoming queue o =
    exec c (Trade (fill (leaves incoming) queue o) o.price) (after_fill (leaves incoming) queue o)
    ∷ exec c (Trade (fill (leaves incoming) queue o) o.price) (after_fills incoming queue (filter (λ x. not (ahead o x)) queue))
    ∷ []

-- the orders of a queue that get a fill, each ahead of the next
abbrev pub filled_orders : ℕ → List Order → List Order
filled_orders quantity queue = by_priority (filter (λ o. nat_lt 0 (fill quantity queue o)) queue)

-- the reports of a match
abbrev pub trades : Cause → Order → List Order → List Output
trades c incoming orders =
    flat_map (trade c incoming (crossing incoming orders)) (filled_orders (leaves incoming) (crossing incoming orders))

-- the crossing orders have enough left for all of the incoming one
abbrev pub can_fill : Order → List Order → Bool
can_fill incoming orders = nat_le (leaves incoming) (sum_by leaves (crossing incoming orders))

-- an order in a list where something is left of it
abbrev pub live_alone : Order → List Order
live_alone o = if is_live o then o ∷ [] else []

-- the resting orders after an order has come in on these terms
abbrev pub matched : TimeInForce → Order → List Order → List Order
matched Day incoming orders = rest incoming orders ++ live_alone (done incoming orders)
matched ImmediateOrCancel incoming orders = rest incoming orders
matched FillOrKill incoming orders = if can_fill incoming orders then rest incoming orders else orders

-- the cancel report of what is left of an order by its own terms
abbrev pub canceled_rest : Cause → Order → List Output
canceled_rest c o = map (exec c (Canceled None)) (live_alone o)

-- the outputs of an order that has come in on these terms
abbrev pub match_outputs : Cause → TimeInForce → Order → List Order → List Output
match_outputs c Day incoming orders = trades c incoming orders
match_outputs c ImmediateOrCancel incoming orders = trades c incoming orders ++ canceled_rest c (done incoming orders)
match_outputs c FillOrKill incoming orders =
    if can_fill incoming orders then trades c incoming orders else canceled_rest c incoming
