-- The numbers of a command are in range, and its symbol is spelled as one, whatever was read.
use Rattle.std.proofs.Common.{◌≡◌, ℕ, ◌≤◌, Bool, false, List, Option, None, Some, IsTrue, refl, arith}
use Rattle.std.specs.Prelude.{⊤}
use Rattle.std.specs.Option.{option_map_or}
use Rattle.std.proofs.lemmas.Bool.Decides.{nat_tests}
use Rattle.fix_frame.specs.Grammar.{Field}
use Rattle.venue_model.specs.Step.{IsCommand}
use Rattle.venue_model.specs.Spelling.{IsSpelling}
use Rattle.venue_model.specs.declared.commands.Command.{Command}
use Rattle.venue_model.specs.declared.commands.Command.TheVariants.{New, Cancel, Replace, Malformed, Void}
use Rattle.venue_model.specs.declared.commands.RefMsgType.{RefMsgType}
use Rattle.venue_model.specs.declared.commands.RefMsgType.TheVariants as types
use Rattle.venue_model.specs.Orders.{is_market}
use Rattle.fix_orders.specs.declared.tables.Table.{Table}
use Rattle.fix_orders.specs.declared.tables.Table.TheVariants.{LimitOrder, MarketOrder, CancelRequest, ReplaceRequest}
use Rattle.fix_orders.specs.declared.fields.Fault.{Fault}
use Rattle.fix_orders.specs.Formats.{format_of}
use Rattle.fix_orders.specs.Formats.Format.{number_to}
use Rattle.fix_orders.specs.Header.{Header, header_of}
use Rattle.fix_orders.specs.Reading.{number_at, value_at, required, is_among, ref_type_of, table_of, classes, first_fault, judged_order, typed, headed, command_of, exact_fields, reads}
use Rattle.fix_orders.specs.FaultLaws.{right_value, spelling}

-- in a message without a fault a required number is in its range
required_number : (table : Table) (fields : List Field) → first_fault classes table fields ≡ None
    → (tag most : ℕ) → IsTrue (is_among (required table) tag) → format_of table tag ≡ number_to most
    → (1 ≤ number_at tag fields) × (number_at tag fields ≤ most)
required_number table fields none tag most needed number =
    let right = right_value table fields tag none needed in
    let range = rw number at right.range in
    (grind (arith, nat_tests), grind (arith, nat_tests))

-- a message without a fault asks for numbers in their ranges, and one with a fault for none
judged_within : (table : Table) (header : Header) (fields : List Field) (fault : Option Fault)
    → first_fault classes table fields ≡ fault → IsCommand (judged_order table header fields fault)
judged_within table header fields (Some fault) is = tt
judged_within LimitOrder header fields None is =
    let number = required_number LimitOrder fields is in
    (number 11 _ refl refl, number 44 _ refl refl, number 38 _ refl refl)
judged_within MarketOrder header fields None is =
    let number = required_number MarketOrder fields is in
    (number 11 _ refl refl, tt, number 38 _ refl refl)
judged_within CancelRequest header fields None is =
    let number = required_number CancelRequest fields is in
    (number 11 _ refl refl, number 41 _ refl refl)
judged_within ReplaceRequest header fields None is =
    let number = required_number ReplaceRequest fields is in
    (number 11 _ refl refl, number 41 _ refl refl, number 44 _ refl refl, number 38 _ refl refl)

module _ (P : Command → Type 0) (void : P Void) (market : Bool)
    (each : (type : RefMsgType) (header : Header) (fields : List Field) (fault : Option Fault)
    → first_fault classes (table_of market type fields) fields ≡ fault
    → P (judged_order (table_of market type fields) header fields fault)) where
  typed_holds : (header : Header) (fields : List Field) (type : Option RefMsgType) → P (typed market header fields type)
  typed_holds header fields None = void
  typed_holds header fields (Some type) =
      each type header fields (first_fault classes (table_of market type fields) fields) refl

  headed_holds : (fields : List Field) (header : Option Header) → P (headed market fields header)
  headed_holds fields None = void
  headed_holds fields (Some header) = typed_holds header fields (ref_type_of header.msg_type)

  -- what holds of each message that was judged, and of none, holds of what is read, whatever the fields
  command_holds : (fields : List Field) → P (command_of market fields)
  unfolding command_of
  command_holds fields = headed_holds fields (header_of fields)

  exact_holds : (fields : Option (List Field)) → P (option_map_or (command_of market) fields Void)
  exact_holds None = void
  exact_holds (Some fields) = command_holds fields

  -- and whatever the bytes
  reads_holds : (bytes : List ℕ) → P (reads market bytes)
  unfolding reads
  reads_holds bytes = exact_holds (exact_fields bytes)

pub command_within : (market : Bool) (fields : List Field) → IsCommand (command_of market fields)
command_within market = command_holds IsCommand tt market (λ type header fields. judged_within (table_of market type fields) header fields)

pub reads_within : (market : Bool) (bytes : List ℕ) → IsCommand (reads market bytes)
reads_within market = reads_holds IsCommand tt market (λ type header fields. judged_within (table_of market type fields) header fields)

-- the symbol of a new order is spelled as one
abbrev pub NamesSymbol : Command → Type 0
NamesSymbol (New time order) = IsSpelling order.symbol
NamesSymbol (Cancel time request) = ⊤
NamesSymbol (Replace time request) = ⊤
NamesSymbol (Malformed time fault) = ⊤
NamesSymbol Void = ⊤

judged_names : (table : Table) (header : Header) (fields : List Field) (fault : Option Fault)
    → first_fault classes table fields ≡ fault → NamesSymbol (judged_order table header fields fault)
judged_names table header fields (Some fault) is = tt
judged_names LimitOrder header fields None is =
    spelling (value_at 55 fields) (right_value LimitOrder fields 55 is refl).format
judged_names MarketOrder header fields None is =
    spelling (value_at 55 fields) (right_value MarketOrder fields 55 is refl).format
judged_names CancelRequest header fields None is = tt
judged_names ReplaceRequest header fields None is = tt

pub reads_names : (market : Bool) (bytes : List ℕ) → NamesSymbol (reads market bytes)
reads_names market = reads_holds NamesSymbol tt market (λ type header fields. judged_names (table_of market type fields) header fields)

-- it isn't a market order
abbrev pub AsksNoMarket : Command → Type 0
AsksNoMarket (New time order) = is_market order.ord_type ≡ false
AsksNoMarket (Cancel time request) = ⊤
AsksNoMarket (Replace time request) = ⊤
AsksNoMarket (Malformed time fault) = ⊤
AsksNoMarket Void = ⊤

judged_priced : (type : RefMsgType) (header : Header) (fields : List Field) (fault : Option Fault)
    → first_fault classes (table_of false type fields) fields ≡ fault
    → AsksNoMarket (judged_order (table_of false type fields) header fields fault)
judged_priced type header fields (Some fault) is = tt
judged_priced types.NewOrderSingle header fields None is = refl
judged_priced types.OrderCancelRequest header fields None is = tt
judged_priced types.OrderCancelReplaceRequest header fields None is = tt

-- where market orders aren't read, no message is one
pub reads_no_market : (bytes : List ℕ) → AsksNoMarket (reads false bytes)
reads_no_market = reads_holds AsksNoMarket tt false judged_priced
