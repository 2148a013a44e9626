-- What an output says: MsgType, SendingTime and the body behind the header (docs/PROFILE.md, "Reports").
use Rattle.std.specs.Prelude.{ℕ, ◌+◌, ◌/◌, ◌==◌, if◌then◌else◌, List, [], ◌∷◌, ◌++◌, codes, Option, Some, None}
use Rattle.std.specs.Fmt.{decimal}
use Rattle.fix_frame.specs.Grammar.{Field, print_fields}
use Rattle.venue_model.specs.Orders.{leaves}
use Rattle.venue_model.specs.Texts.{Text, msg_type_of}
use Rattle.venue_model.specs.declared.commands.Malformed.{Malformed}
use Rattle.venue_model.specs.declared.commands.SessionRejectReason.{SessionRejectReason}
use Rattle.venue_model.specs.declared.commands.SessionRejectReason.TheVariants.{RequiredTagMissing, TagNotDefined, ValueIncorrect, IncorrectFormat, TagAppearsMoreThanOnce}
use Rattle.venue_model.specs.declared.commands.RefMsgType.{RefMsgType}
use Rattle.venue_model.specs.declared.commands.RefMsgType.TheVariants.{NewOrderSingle, OrderCancelRequest, OrderCancelReplaceRequest}
use Rattle.venue_model.specs.declared.orders.Order.{Order}
use Rattle.venue_model.specs.declared.orders.Side.{Side}
use Rattle.venue_model.specs.declared.orders.Side.TheVariants.{Buy, Sell}
use Rattle.venue_model.specs.declared.outputs.CxlRejReason.{CxlRejReason}
use Rattle.venue_model.specs.declared.outputs.CxlRejReason.TheVariants.{UnknownOrder, BrokerOption, DuplicateClOrdId}
use Rattle.venue_model.specs.declared.outputs.CxlRejResponseTo.{CxlRejResponseTo}
use Rattle.venue_model.specs.declared.outputs.CxlRejResponseTo.TheVariants as requests
use Rattle.venue_model.specs.declared.outputs.ExecType.{ExecType}
use Rattle.venue_model.specs.declared.outputs.ExecType.TheVariants.{New, Trade, Canceled, Replaced, Rejected}
use Rattle.venue_model.specs.declared.outputs.OrdRejReason.{OrdRejReason}
use Rattle.venue_model.specs.declared.outputs.OrdRejReason.TheVariants.{BookFull, UnknownSymbol, DuplicateOrder}
use Rattle.venue_model.specs.declared.outputs.OrderCancelReject.{OrderCancelReject}
use Rattle.venue_model.specs.declared.outputs.Output.{Output}
use Rattle.venue_model.specs.declared.outputs.OutputType.{OutputType}
use Rattle.venue_model.specs.declared.outputs.OutputType.TheVariants as types
use Rattle.venue_model.specs.declared.outputs.Report.{Report}
use Rattle.venue_model.specs.declared.outputs.Report.TheVariants.{Exec, CancelReject, SessionReject}
use Rattle.fix_orders.specs.Formats.{time_text}

-- a field of some text, and one of a number
abbrev pub field : ℕ → List ℕ → Field
field tag value = record { tag = tag; value = value }

abbrev pub number : ℕ → ℕ → Field
number tag n = field tag (decimal n)

-- Side (54)
abbrev pub side_code : Side → List ℕ
side_code Buy = codes "1"
side_code Sell = codes "2"

-- OrdStatus (39) of an order that rests: new, or partially filled
abbrev pub resting_status : Order → List ℕ
resting_status o = if o.cum == 0 then codes "0" else codes "1"

-- ExecType (150)
abbrev pub exec_code : ExecType → List ℕ
exec_code New = codes "0"
exec_code (Trade quantity price) = codes "F"
exec_code (Canceled orig) = codes "4"
exec_code (Replaced orig) = codes "5"
exec_code (Rejected reason) = codes "8"

-- OrdStatus (39) after the event; a trade fills the order partially or whole
abbrev pub status_code : ExecType → Order → List ℕ
status_code New o = codes "0"
status_code (Trade quantity price) o = if leaves o == 0 then codes "2" else codes "1"
status_code (Canceled orig) o = codes "4"
status_code (Replaced orig) o = resting_status o
status_code (Rejected reason) o = codes "8"

-- OrigClOrdID (41), in the report of an accepted cancel or replace
abbrev pub orig_fields : ExecType → List Field
orig_fields New = []
orig_fields (Trade quantity price) = []
orig_fields (Canceled None) = []
orig_fields (Canceled (Some orig)) = number 41 orig ∷ []
orig_fields (Replaced orig) = number 41 orig ∷ []
orig_fields (Rejected reason) = []

-- Price (44), which a market order doesn't have
abbrev pub price_fields : Order → List Field
price_fields o = if o.is_market then [] else number 44 o.price ∷ []

-- Symbol (55), Side (54), OrderQty (38), and Price (44) where there is one
abbrev pub order_fields : Order → List Field
order_fields o = field 55 o.symbol ∷ field 54 (side_code o.side) ∷ number 38 o.total ∷ price_fields o

-- LastQty (32) and LastPx (31), in the report of a trade
abbrev pub last_fields : ExecType → List Field
last_fields New = []
last_fields (Trade quantity price) = number 32 quantity ∷ number 31 price ∷ []
last_fields (Canceled orig) = []
last_fields (Replaced orig) = []
last_fields (Rejected reason) = []

-- LeavesQty (151): nothing is left of an order that is canceled or refused
abbrev pub leaves_after : ExecType → Order → ℕ
leaves_after New o = leaves o
leaves_after (Trade quantity price) o = leaves o
leaves_after (Canceled orig) o = 0
leaves_after (Replaced orig) o = leaves o
leaves_after (Rejected reason) o = 0

-- AvgPx (6), rounded down; 0 where nothing is filled
abbrev pub average : Order → ℕ
average o = if o.cum == 0 then 0 else o.notional / o.cum

-- LeavesQty (151), CumQty (14) and AvgPx (6)
abbrev pub filled_fields : ExecType → Order → List Field
filled_fields kind o = number 151 (leaves_after kind o) ∷ number 14 o.cum ∷ number 6 (average o) ∷ []

-- OrdRejReason (103), and Text (58) where the book is full
abbrev pub reason_fields : OrdRejReason → List Field
reason_fields BookFull = field 103 (codes "0") ∷ field 58 (codes "book full") ∷ []
reason_fields UnknownSymbol = field 103 (codes "1") ∷ []
reason_fields DuplicateOrder = field 103 (codes "6") ∷ []

-- these, in the report of a refusal
abbrev pub refusal_fields : ExecType → List Field
refusal_fields New = []
refusal_fields (Trade quantity price) = []
refusal_fields (Canceled orig) = []
refusal_fields (Replaced orig) = []
refusal_fields (Rejected reason) = reason_fields reason

-- OrderID (37), ExecID (17), ExecType (150), OrdStatus (39) and ClOrdID (11)
abbrev pub event_fields : ExecType → Order → ℕ → List Field
event_fields kind o exec_id =
    number 37 o.id ∷ number 17 exec_id ∷ field 150 (exec_code kind) ∷ field 39 (status_code kind o)
    ∷ number 11 o.cl_ord_id ∷ []

-- the body of ExecutionReport (35=8)
abbrev pub exec_fields : ExecType → Order → ℕ → List Field
exec_fields kind o exec_id =
    event_fields kind o exec_id ++ orig_fields kind ++ order_fields o ++ last_fields kind
    ++ filled_fields kind o ++ refusal_fields kind

-- OrderID (37) of the named order
abbrev pub named_id : Option Order → List ℕ
named_id None = codes "NONE"
named_id (Some o) = decimal o.id

-- OrdStatus (39) of the named order; 8, rejected, where there is none
abbrev pub named_status : Option Order → List ℕ
named_status None = codes "8"
named_status (Some o) = resting_status o

-- CxlRejResponseTo (434)
abbrev pub response_code : CxlRejResponseTo → List ℕ
response_code requests.Cancel = codes "1"
response_code requests.CancelReplace = codes "2"

-- CxlRejReason (102)
abbrev pub cancel_reject_code : CxlRejReason → List ℕ
cancel_reject_code UnknownOrder = codes "1"
cancel_reject_code BrokerOption = codes "2"
cancel_reject_code DuplicateClOrdId = codes "6"

-- the body of OrderCancelReject (35=9)
abbrev pub cancel_reject_fields : OrderCancelReject → List Field
cancel_reject_fields r =
    field 37 (named_id r.order) ∷ number 11 r.cl_ord_id ∷ number 41 r.orig_cl_ord_id ∷ field 39 (named_status r.order)
    ∷ field 434 (response_code r.response_to) ∷ field 102 (cancel_reject_code r.reason) ∷ []

-- RefMsgType (372)
abbrev pub type_code : RefMsgType → List ℕ
type_code NewOrderSingle = codes "D"
type_code OrderCancelRequest = codes "F"
type_code OrderCancelReplaceRequest = codes "G"

-- SessionRejectReason (373)
abbrev pub reject_code : SessionRejectReason → List ℕ
reject_code RequiredTagMissing = codes "1"
reject_code TagNotDefined = codes "2"
reject_code ValueIncorrect = codes "5"
reject_code IncorrectFormat = codes "6"
reject_code TagAppearsMoreThanOnce = codes "13"

-- the body of Reject (35=3): RefSeqNum (45), RefTagID (371), RefMsgType (372), SessionRejectReason (373)
abbrev pub reject_fields : Malformed → List Field
reject_fields fault =
    number 45 fault.ref_seq ∷ number 371 fault.tag ∷ field 372 (type_code fault.ref_type)
    ∷ field 373 (reject_code fault.reason) ∷ []

-- MsgType (35)
abbrev pub msg_type_code : OutputType → List ℕ
msg_type_code types.ExecutionReport = codes "8"
msg_type_code types.OrderCancelReject = codes "9"
msg_type_code types.Reject = codes "3"

-- the body of a report; ExecID (17) is for the execution report alone
abbrev pub body_fields : Report → ℕ → List Field
body_fields (Exec r) exec_id = exec_fields r.exec_type r.order exec_id
body_fields (CancelReject r) exec_id = cancel_reject_fields r
body_fields (SessionReject fault) exec_id = reject_fields fault

-- MsgType (35), SendingTime (52) and the body of a message
pub record Said : Type 0 where
  pub kind : List ℕ
  pub time : List ℕ
  pub body : List Field

-- What the output at this place of the list of all outputs says. ExecID is the place plus one, since the first
-- output's place is 0.
abbrev pub text : Output → ℕ → Said
text output place = record {
  kind = msg_type_code (msg_type_of output.report);
  time = time_text output.sending_time;
  body = body_fields output.report (place + 1);
}

-- the same, as it goes through the rings: the body in bytes
abbrev pub text_bytes : Output → ℕ → Text
text_bytes output place = record {
  msg_type = msg_type_of output.report;
  sending_time = output.sending_time;
  body = print_fields (body_fields output.report (place + 1));
}
