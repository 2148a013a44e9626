-- A short form for worked examples: requests are a word each, and an output is one list of numbers.
use Rattle.std.specs.Prelude.{ℕ, List, [], ◌∷◌, map, codes, Option, Some, None}
use Rattle.venue_model.specs.declared.orders.Side.{Side}
use Rattle.venue_model.specs.declared.orders.Order.{Order}
use Rattle.venue_model.specs.declared.commands.OrdType.TheVariants.{Market, Limit}
use Rattle.venue_model.specs.declared.commands.TimeInForce.{TimeInForce}
use Rattle.venue_model.specs.declared.commands.TimeInForce.TheVariants.{Day}
use Rattle.venue_model.specs.declared.commands.Command.TheVariants as command
use Rattle.venue_model.specs.declared.outputs.ExecType.{ExecType}
use Rattle.venue_model.specs.declared.outputs.ExecType.TheVariants.{New, Trade, Canceled, Replaced, Rejected}
use Rattle.venue_model.specs.declared.outputs.OrdRejReason.{OrdRejReason}
use Rattle.venue_model.specs.declared.outputs.OrdRejReason.TheVariants.{BookFull, UnknownSymbol, DuplicateOrder}
use Rattle.venue_model.specs.declared.outputs.CxlRejReason.{CxlRejReason}
use Rattle.venue_model.specs.declared.outputs.CxlRejReason.TheVariants.{UnknownOrder, BrokerOption, DuplicateClOrdId}
use Rattle.venue_model.specs.declared.outputs.Report.{Report}
use Rattle.venue_model.specs.declared.outputs.Report.TheVariants.{Exec, CancelReject, SessionReject}
use Rattle.venue_model.specs.declared.outputs.Output.{Output}
use Rattle.venue_model.specs.Orders.{leaves}
use Rattle.venue_model.specs.Step.{Request, outputs, state}

-- 2025-01-02, 09:30:00
abbrev pub half_past_nine : ℕ
half_past_nine = 20250102093000

-- a new order in ABC: client, side, quantity, price, ClOrdID
abbrev pub new : TimeInForce → ℕ → Side → ℕ → ℕ → ℕ → Request
new terms client side quantity price name = record {
  gateway = client;
  command = command.New half_past_nine (record {
    cl_ord_id = name;
    symbol = codes "ABC";
    side = side;
    ord_type = Limit price;
    quantity = quantity;
    time_in_force = terms;
  });
}

-- a market order in ABC: client, side, quantity, ClOrdID
abbrev pub market : TimeInForce → ℕ → Side → ℕ → ℕ → Request
market terms client side quantity name = record {
  gateway = client;
  command = command.New half_past_nine (record {
    cl_ord_id = name;
    symbol = codes "ABC";
    side = side;
    ord_type = Market;
    quantity = quantity;
    time_in_force = terms;
  });
}

abbrev pub day : ℕ → Side → ℕ → ℕ → ℕ → Request
day = new Day

-- a cancel of the order of one name, under another: client, side, old name, new name
abbrev pub cancel : ℕ → Side → ℕ → ℕ → Request
cancel client side old name = record {
  gateway = client;
  command = command.Cancel half_past_nine
      (record { cl_ord_id = name; orig_cl_ord_id = old; symbol = codes "ABC"; side = side });
}

-- a replace: client, side, old name, new name, total, price
abbrev pub replace : ℕ → Side → ℕ → ℕ → ℕ → ℕ → Request
replace client side old name total price = record {
  gateway = client;
  command = command.Replace half_past_nine (record {
    cl_ord_id = name;
    orig_cl_ord_id = old;
    symbol = codes "ABC";
    side = side;
    price = price;
    quantity = total;
    time_in_force = Day;
  });
}

-- OrdRejReason and CxlRejReason as FIX numbers them
abbrev pub ord_rej : OrdRejReason → ℕ
ord_rej BookFull = 0
ord_rej UnknownSymbol = 1
ord_rej DuplicateOrder = 6

abbrev pub cxl_rej : CxlRejReason → ℕ
cxl_rej UnknownOrder = 1
cxl_rej BrokerOption = 2
cxl_rej DuplicateClOrdId = 6

-- what is special of an execution report: 150 as a byte, and 32 and 31, or 41, or 103
abbrev pub kind : ExecType → List ℕ
kind New = 48 ∷ []
kind (Trade last_qty last_px) = 70 ∷ last_qty ∷ last_px ∷ []
kind (Canceled None) = 52 ∷ []
kind (Canceled (Some original)) = 52 ∷ original ∷ []
kind (Replaced original) = 53 ∷ original ∷ []
kind (Rejected reason) = 56 ∷ ord_rej reason ∷ []

abbrev pub named_id : Option Order → ℕ
named_id None = 0
named_id (Some o) = o.id

-- to, 37, 11, 38, 44, what is left, 14, the notional, then what is special
abbrev pub shown_report : ℕ → Report → List ℕ
shown_report client (Exec r) =
    client ∷ r.order.id ∷ r.order.cl_ord_id ∷ r.order.total ∷ r.order.price ∷ leaves r.order ∷ r.order.cum
    ∷ r.order.notional ∷ kind r.exec_type
shown_report client (CancelReject r) = client ∷ named_id r.order ∷ r.cl_ord_id ∷ r.orig_cl_ord_id ∷ cxl_rej r.reason
    ∷ []
shown_report client (SessionReject fault) = client ∷ fault.ref_seq ∷ fault.tag ∷ []

abbrev pub shown : Output → List ℕ
shown o = shown_report o.«to» o.report

-- what the venue with the one symbol ABC answers to these requests
abbrev pub told : List Request → List (List ℕ)
told rs = map shown (outputs (codes "ABC" ∷ []) rs)

-- what rests after them: client, id, price, what is left, stamp
abbrev pub resting : List Request → List (List ℕ)
resting rs = map (λ o. o.client ∷ o.id ∷ o.price ∷ leaves o ∷ o.stamp ∷ []) (state (codes "ABC" ∷ []) rs).orders
