-- What each request does: the refusals in their order, and what an accepted one makes of the book
-- (docs/PROFILE.md, "Orders").
use Rattle.std.specs.Prelude.{ℕ, ◌+◌, ◌-◌, Bool, true, false, ◌&&◌, not, nat_eq, nat_le, List, [], ◌∷◌, length, map, filter, find, slice_index, slice_set, if◌then◌else◌, Option, Some, None}
use Rattle.std.specs.List.{list_any}
use Rattle.std.specs.Str.{bytes_eq}
use Rattle.venue_model.specs.declared.orders.Order.{Order}
use Rattle.venue_model.specs.declared.commands.TimeInForce.{TimeInForce}
use Rattle.venue_model.specs.declared.commands.TimeInForce.TheVariants.{Day, ImmediateOrCancel, FillOrKill}
use Rattle.venue_model.specs.declared.commands.NewOrderSingle.{NewOrderSingle}
use Rattle.venue_model.specs.declared.commands.OrderCancelRequest.{OrderCancelRequest}
use Rattle.venue_model.specs.declared.commands.OrderCancelReplaceRequest.{OrderCancelReplaceRequest}
use Rattle.venue_model.specs.declared.commands.Malformed.{Malformed}
use Rattle.venue_model.specs.declared.outputs.Cause.{Cause}
use Rattle.venue_model.specs.declared.outputs.OrdRejReason.{OrdRejReason}
use Rattle.venue_model.specs.declared.outputs.OrdRejReason.TheVariants.{BookFull, UnknownSymbol, DuplicateOrder}
use Rattle.venue_model.specs.declared.outputs.CxlRejReason.{CxlRejReason}
use Rattle.venue_model.specs.declared.outputs.CxlRejReason.TheVariants.{UnknownOrder, BrokerOption, DuplicateClOrdId}
use Rattle.venue_model.specs.declared.outputs.CxlRejResponseTo.TheVariants.{Cancel, CancelReplace}
use Rattle.venue_model.specs.declared.outputs.ExecType.TheVariants as exec_type
use Rattle.venue_model.specs.declared.outputs.Report.TheVariants.{CancelReject, SessionReject}
use Rattle.venue_model.specs.declared.outputs.Output.{Output}
use Rattle.venue_model.specs.Orders.{same_side, is_market, price_of}
use Rattle.venue_model.specs.Match.{output, exec, matched, match_outputs}

-- the venue's symbols, in the order of the command line
abbrev pub Symbols : Type 0
Symbols = List (List ℕ)

-- what a venue is started with, and keeps for a run: its symbols, and the first sequence at which market orders are read
pub record Limits : Type 0 where
  pub symbols : Symbols
  pub cut : ℕ

-- the resting orders, and each client's greatest accepted ClOrdID: client k's at place k - 1, 0 before the first
pub record State : Type 0 where
  pub orders : List Order
  pub greatest : List ℕ

-- the state after a command, and the command's outputs
pub record Stepped : Type 0 where
  pub state : State
  pub outputs : List Output

-- how many orders rest at most
abbrev pub most_resting : ℕ
most_resting = 4096

-- a client's greatest accepted ClOrdID
abbrev pub greatest_of : State → ℕ → ℕ
greatest_of s client = slice_index s.greatest (client - 1)

-- the state after a client's request of this ClOrdID was accepted, with these orders
abbrev pub accepted : State → ℕ → ℕ → List Order → State
accepted s client cl_ord_id orders = record { orders = orders; greatest = slice_set s.greatest (client - 1) cl_ord_id }

-- nothing changes but one output
abbrev pub answered : State → Output → Stepped
answered s o = record { state = s; outputs = o ∷ [] }

abbrev pub is_day : TimeInForce → Bool
is_day Day = true
is_day ImmediateOrCancel = false
is_day FillOrKill = false

-- NewOrderSingle

-- the same terms for an order that never rests
abbrev pub at_once : TimeInForce → TimeInForce
at_once Day = ImmediateOrCancel
at_once ImmediateOrCancel = ImmediateOrCancel
at_once FillOrKill = FillOrKill

-- the terms on which a new order comes in: what is left of a market order never rests
abbrev pub terms_of : NewOrderSingle → TimeInForce
terms_of n = if is_market n.ord_type then at_once n.time_in_force else n.time_in_force

-- a new order as it comes in
abbrev pub entering : Cause → NewOrderSingle → Order
entering c n = record {
  id = c.sequence + 1;
  client = c.gateway;
  cl_ord_id = n.cl_ord_id;
  symbol = n.symbol;
  side = n.side;
  price = price_of n.side n.ord_type;
  is_market = is_market n.ord_type;
  total = n.quantity;
  cum = 0;
  notional = 0;
  stamp = c.sequence;
}

-- why a new order is refused: the first that holds
abbrev pub new_refusal : Symbols → State → ℕ → NewOrderSingle → Option OrdRejReason
new_refusal symbols s client n =
    if nat_le n.cl_ord_id (greatest_of s client) then Some DuplicateOrder
    else (if not (list_any (bytes_eq n.symbol) symbols) then Some UnknownSymbol
    else (if is_day (terms_of n) && nat_le most_resting (length s.orders) then Some BookFull
    else None))

abbrev pub new_answered : State → Cause → NewOrderSingle → Option OrdRejReason → Stepped
new_answered s c n (Some reason) = answered s (exec c (exec_type.Rejected reason) (entering c n))
new_answered s c n None = record {
  state = accepted s c.gateway n.cl_ord_id (matched (terms_of n) (entering c n) s.orders);
  outputs = exec c exec_type.New (entering c n) ∷ match_outputs c (terms_of n) (entering c n) s.orders;
}

-- it is refused; or accepted, matched, and what is left rests or is canceled
abbrev pub on_new : Symbols → State → Cause → NewOrderSingle → Stepped
on_new symbols s c n = new_answered s c n (new_refusal symbols s c.gateway n)

-- OrderCancelRequest and OrderCancelReplaceRequest

-- it is the client's order of this ClOrdID
abbrev pub is_named : ℕ → ℕ → Order → Bool
is_named client cl_ord_id o = nat_eq o.client client && nat_eq o.cl_ord_id cl_ord_id

-- the client's resting order of this ClOrdID
abbrev pub named : State → ℕ → ℕ → Option Order
named s client cl_ord_id = find (is_named client cl_ord_id) s.orders

-- the other resting orders
abbrev pub others : State → ℕ → ℕ → List Order
others s client cl_ord_id = filter (λ o. not (is_named client cl_ord_id o)) s.orders

-- why a request for a named order is refused, where `fits` says whether it fits that order: the first that holds
abbrev pub unfit : (Order → Bool) → Option Order → Option CxlRejReason
unfit fits None = Some UnknownOrder
unfit fits (Some o) = if fits o then None else Some BrokerOption

-- a cancel fits an order of its symbol and side
abbrev pub cancel_fits : OrderCancelRequest → Order → Bool
cancel_fits r o = bytes_eq r.symbol o.symbol && same_side r.side o.side

abbrev pub cancel_refusal : State → ℕ → OrderCancelRequest → Option CxlRejReason
cancel_refusal s client r =
    if nat_le r.cl_ord_id (greatest_of s client) then Some DuplicateClOrdId
    else unfit (cancel_fits r) (named s client r.orig_cl_ord_id)

-- the order under the name that the cancel has given it
abbrev pub canceled : OrderCancelRequest → Order → Order
canceled r o = record o { cl_ord_id = r.cl_ord_id }

-- the order is gone
abbrev pub order_canceled : State → Cause → OrderCancelRequest → Option Order → Stepped
order_canceled s c r None = record { state = s; outputs = [] }
order_canceled s c r (Some o) = record {
  state = accepted s c.gateway r.cl_ord_id (others s c.gateway r.orig_cl_ord_id);
  outputs = exec c (exec_type.Canceled (Some r.orig_cl_ord_id)) (canceled r o) ∷ [];
}

abbrev pub cancel_reject : State → Cause → OrderCancelRequest → CxlRejReason → Output
cancel_reject s c r reason = output c c.gateway (CancelReject (record {
  order = named s c.gateway r.orig_cl_ord_id;
  cl_ord_id = r.cl_ord_id;
  orig_cl_ord_id = r.orig_cl_ord_id;
  response_to = Cancel;
  reason = reason;
}))

abbrev pub cancel_answered : State → Cause → OrderCancelRequest → Option CxlRejReason → Stepped
cancel_answered s c r (Some reason) = answered s (cancel_reject s c r reason)
cancel_answered s c r None = order_canceled s c r (named s c.gateway r.orig_cl_ord_id)

-- it is refused, or the named order is taken out
abbrev pub on_cancel : State → Cause → OrderCancelRequest → Stepped
on_cancel s c r = cancel_answered s c r (cancel_refusal s c.gateway r)

-- a replace fits an order of its symbol and side that is to stay a day order with something left
abbrev pub replace_fits : OrderCancelReplaceRequest → Order → Bool
replace_fits r o =
    bytes_eq r.symbol o.symbol && same_side r.side o.side && is_day r.time_in_force && not (nat_le r.quantity o.cum)

abbrev pub replace_refusal : State → ℕ → OrderCancelReplaceRequest → Option CxlRejReason
replace_refusal s client r =
    if nat_le r.cl_ord_id (greatest_of s client) then Some DuplicateClOrdId
    else unfit (replace_fits r) (named s client r.orig_cl_ord_id)

-- the order with the request's name, price and total
abbrev pub amended : OrderCancelReplaceRequest → Order → Order
amended r o = record o { cl_ord_id = r.cl_ord_id; price = r.price; total = r.quantity }

-- its price stays and its total doesn't grow, so it keeps its place in time
abbrev pub keeps_place : OrderCancelReplaceRequest → Order → Bool
keeps_place r o = nat_eq r.price o.price && nat_le r.quantity o.total

-- the same order behind all that came before this command
abbrev pub restamped : Cause → Order → Order
restamped c o = record o { stamp = c.sequence }

-- the resting orders with the named one amended where it stands
abbrev pub amended_in_place : State → ℕ → OrderCancelReplaceRequest → List Order
amended_in_place s client r = map (λ o. if is_named client r.orig_cl_ord_id o then amended r o else o) s.orders

-- the order stays where it is; or it leaves the book and comes in again as a day order, with what was filled of it
abbrev pub order_replaced : State → Cause → OrderCancelReplaceRequest → Option Order → Stepped
order_replaced s c r None = record { state = s; outputs = [] }
order_replaced s c r (Some o) =
    if keeps_place r o
    then record {
      state = accepted s c.gateway r.cl_ord_id (amended_in_place s c.gateway r);
      outputs = exec c (exec_type.Replaced r.orig_cl_ord_id) (amended r o) ∷ [];
    }
    else record {
      state = accepted s c.gateway r.cl_ord_id (matched Day (restamped c (amended r o)) (others s c.gateway r.orig_cl_ord_id));
      outputs = exec c (exec_type.Replaced r.orig_cl_ord_id) (restamped c (amended r o))
          ∷ match_outputs c Day (restamped c (amended r o)) (others s c.gateway r.orig_cl_ord_id);
    }

abbrev pub replace_reject : State → Cause → OrderCancelReplaceRequest → CxlRejReason → Output
replace_reject s c r reason = output c c.gateway (CancelReject (record {
  order = named s c.gateway r.orig_cl_ord_id;
  cl_ord_id = r.cl_ord_id;
  orig_cl_ord_id = r.orig_cl_ord_id;
  response_to = CancelReplace;
  reason = reason;
}))

abbrev pub replace_answered : State → Cause → OrderCancelReplaceRequest → Option CxlRejReason → Stepped
replace_answered s c r (Some reason) = answered s (replace_reject s c r reason)
replace_answered s c r None = order_replaced s c r (named s c.gateway r.orig_cl_ord_id)

-- it is refused, or the named order is amended
abbrev pub on_replace : State → Cause → OrderCancelReplaceRequest → Stepped
on_replace s c r = replace_answered s c r (replace_refusal s c.gateway r)

-- a message with a fault is rejected
abbrev pub on_malformed : State → Cause → Malformed → Stepped
on_malformed s c fault = answered s (output c c.gateway (SessionReject fault))
