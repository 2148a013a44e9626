-- How many resting orders a command reads: looking a price or a sum up reads none.
use Rattle.std.specs.Prelude.{◌≡◌, ◌≢◌, ⊤, ℕ, ◌+◌, ◌≤◌, true, false, List, length, Option, Some, None, MatchOption, if◌then◌else◌}
use Rattle.venue_model.specs.declared.orders.Order.{Order}
use Rattle.venue_model.specs.declared.commands.TimeInForce.{TimeInForce}
use Rattle.venue_model.specs.declared.commands.TimeInForce.TheVariants.{Day, ImmediateOrCancel, FillOrKill}
use Rattle.venue_model.specs.declared.commands.NewOrderSingle.{NewOrderSingle}
use Rattle.venue_model.specs.declared.commands.OrderCancelReplaceRequest.{OrderCancelReplaceRequest}
use Rattle.venue_model.specs.declared.commands.Command.{Command}
use Rattle.venue_model.specs.declared.commands.Command.TheVariants.{New, Cancel, Replace, Malformed, Void}
use Rattle.venue_model.specs.declared.outputs.Cause.{Cause}
use Rattle.venue_model.specs.Orders.{leaves}
use Rattle.venue_model.specs.Match.{crossing, filled_orders, can_fill}
use Rattle.venue_model.specs.Requests.{Symbols, State, entering, new_refusal, named, others, amended, restamped, keeps_place, replace_refusal, terms_of}
use Rattle.venue_model.specs.Step.{Request, cause}

-- how many of the resting orders an incoming one fills
abbrev pub fills : Order → List Order → ℕ
fills incoming orders = length (filled_orders (leaves incoming) (crossing incoming orders))

-- the same on its terms: a fill-or-kill order that can't be filled fills none
abbrev pub filled_by : TimeInForce → Order → List Order → ℕ
filled_by Day incoming orders = fills incoming orders
filled_by ImmediateOrCancel incoming orders = fills incoming orders
filled_by FillOrKill incoming orders = if can_fill incoming orders then fills incoming orders else 0

-- a match has read the orders that it filled, and one more at most
pub record IsMatched (filled before now : ℕ) : Type 0 where
  pub least : before + filled ≤ now
  pub most : now ≤ before + filled + 1

-- a new order reads those that it fills, and one more at most; where it is refused or killed, it reads none
pub record NewReads (symbols : Symbols) (s : State) (c : Cause) (n : NewOrderSingle) (reads : ℕ) : Type 0 where
  pub matched : new_refusal symbols s c.gateway n ≡ None → IsMatched (filled_by (terms_of n) (entering c n) s.orders) 0 reads
  pub refused : new_refusal symbols s c.gateway n ≢ None → reads ≡ 0
  pub killed : terms_of n ≡ FillOrKill → can_fill (entering c n) s.orders ≡ false → reads ≡ 0

-- what a request reads to find the order that it names: that one, if it rests
abbrev pub named_reads : Option Order → ℕ
named_reads None = 0
named_reads (Some o) = 1

-- a replace reads the order that it names, and, where that comes in again, those that it fills then, and one more at most;
-- where it stays, no more
pub record ReplaceReads (s : State) (c : Cause) (r : OrderCancelReplaceRequest) (reads : ℕ) : Type 0 where
  pub least : named_reads (named s c.gateway r.orig_cl_ord_id) ≤ reads
  pub most : MatchOption (named s c.gateway r.orig_cl_ord_id) (reads ≡ 0)
      (λ o. reads ≤ 1 + fills (restamped c (amended r o)) (others s c.gateway r.orig_cl_ord_id) + 1)
  pub stays : MatchOption (named s c.gateway r.orig_cl_ord_id) ⊤ (λ o. keeps_place r o ≡ true → reads ≡ 1)
  pub refused : replace_refusal s c.gateway r ≢ None → reads ≡ named_reads (named s c.gateway r.orig_cl_ord_id)

abbrev pub CommandReads : Symbols → State → ℕ → ℕ → Command → ℕ → Type 0
CommandReads symbols s sequence gateway (New time order) reads = NewReads symbols s (cause gateway sequence time) order reads
CommandReads symbols s sequence gateway (Cancel time request) reads = reads ≡ named_reads (named s gateway request.orig_cl_ord_id)
CommandReads symbols s sequence gateway (Replace time request) reads = ReplaceReads s (cause gateway sequence time) request reads
CommandReads symbols s sequence gateway (Malformed time fault) reads = reads ≡ 0
CommandReads symbols s sequence gateway Void reads = reads ≡ 0

abbrev pub ReadsFew : Symbols → State → ℕ → Request → ℕ → Type 0
ReadsFew symbols s sequence r reads = CommandReads symbols s sequence r.gateway r.command reads
