-- The fields of a body are fields of the grammar.
use Rattle.std.proofs.Common.{◌≡◌, ◌≢◌, ℕ, ◌≤◌, ◌<◌, ◌^◌, Bool, true, List, [], ◌∷◌, ◌++◌, codes, Option, Some, None, IsTrue, refl, arith, ◌==◌, if◌then◌else◌, false}
use Rattle.std.specs.List.{AllByRecursion}
use Rattle.std.specs.Fmt.{decimal}
use Rattle.std.proofs.lemmas.Bool.Decides.{nat_tests}
use Rattle.std.proofs.lemmas.Fmt.{decimal_is_IsNumeral}
use Rattle.fix_frame.specs.Ascii.{soh}
use Rattle.fix_frame.specs.Grammar.{Field, IsField}
use Rattle.venue_model.specs.Spelling.{IsSpelling, is_symbol_byte}
use Rattle.venue_model.specs.declared.commands.RefMsgType.{RefMsgType}
use Rattle.venue_model.specs.declared.commands.RefMsgType.TheVariants as types
use Rattle.venue_model.specs.declared.commands.SessionRejectReason.{SessionRejectReason}
use Rattle.venue_model.specs.declared.commands.SessionRejectReason.TheVariants.{RequiredTagMissing, TagNotDefined, ValueIncorrect, IncorrectFormat, TagAppearsMoreThanOnce}
use Rattle.venue_model.specs.declared.orders.Order.{Order}
use Rattle.venue_model.specs.declared.orders.Side.{Side}
use Rattle.venue_model.specs.declared.orders.Side.TheVariants.{Buy, Sell}
use Rattle.venue_model.specs.declared.outputs.CxlRejReason.{CxlRejReason}
use Rattle.venue_model.specs.declared.outputs.CxlRejReason.TheVariants.{UnknownOrder, BrokerOption, DuplicateClOrdId}
use Rattle.venue_model.specs.declared.outputs.CxlRejResponseTo.{CxlRejResponseTo}
use Rattle.venue_model.specs.declared.outputs.CxlRejResponseTo.TheVariants as requests
use Rattle.venue_model.specs.declared.outputs.ExecType.{ExecType}
use Rattle.venue_model.specs.declared.outputs.ExecType.TheVariants.{New, Trade, Canceled, Replaced, Rejected}
use Rattle.fix_orders.specs.Reading.{is_field}
use Rattle.fix_orders.specs.Text.{field, number, side_code, exec_code, status_code, resting_status, named_status, response_code, cancel_reject_code, type_code, reject_code}
use Rattle.fix_orders.specs.ExactLaws.{field_from, digits_lack, all_from}

-- a number, whatever its tag
pub number_field : (tag n : ℕ) → 1 ≤ tag → tag ≤ 99999 → n < 2 ^ 64 → IsField (number tag n)
number_field tag n low high fits =
    let numeral = decimal_is_IsNumeral n fits in
    record { tag_from = low; tag_to = high; valued = numeral.0.0; ends = digits_lack (decimal n) numeral.0.1 }

-- a symbol
symbol_byte_is : (b : ℕ) → is_symbol_byte b ≡ true → b ≢ soh
symbol_byte_is b is = grind (arith, nat_tests)

pub symbol_field : (name : List ℕ) → IsSpelling name → IsField (field 55 name)
symbol_field name is = record {
  tag_from = omega arith;
  tag_to = omega arith;
  valued = omega (arith, is.some);
  ends = all_from is_symbol_byte (λ b. b ≢ soh) symbol_byte_is name is.each;
}

-- a code of one digit or two letters: each is a value
bit_field : (tag : ℕ) (b : Bool) → 1 ≤ tag → tag ≤ 99999 → IsField (field tag (if b then codes "0" else codes "1"))
bit_field tag true low high =
    record { tag_from = low; tag_to = high; valued = omega arith; ends = ((λ e. absurd (omega arith)), tt) }
bit_field tag false low high =
    record { tag_from = low; tag_to = high; valued = omega arith; ends = ((λ e. absurd (omega arith)), tt) }

pub exec_field : (kind : ExecType) → IsField (field 150 (exec_code kind))
exec_field New = field_from _ refl
exec_field (Trade quantity price) = field_from _ refl
exec_field (Canceled orig) = field_from _ refl
exec_field (Replaced orig) = field_from _ refl
exec_field (Rejected reason) = field_from _ refl

pub resting_field : (o : Order) → IsField (field 39 (resting_status o))
resting_field o = bit_field 39 (o.cum == 0) (omega arith) (omega arith)

trade_field : (b : Bool) → IsField (field 39 (if b then codes "2" else codes "1"))
trade_field true = field_from _ refl
trade_field false = field_from _ refl

pub status_field : (kind : ExecType) (o : Order) → IsField (field 39 (status_code kind o))
status_field New o = field_from _ refl
status_field (Trade quantity price) o = trade_field _
status_field (Canceled orig) o = field_from _ refl
status_field (Replaced orig) o = resting_field o
status_field (Rejected reason) o = field_from _ refl

pub named_field : (o : Option Order) → IsField (field 39 (named_status o))
named_field None = field_from _ refl
named_field (Some o) = resting_field o

pub side_field : (side : Side) → IsField (field 54 (side_code side))
side_field Buy = field_from _ refl
side_field Sell = field_from _ refl

pub response_field : (r : CxlRejResponseTo) → IsField (field 434 (response_code r))
response_field requests.Cancel = field_from _ refl
response_field requests.CancelReplace = field_from _ refl

pub cancel_reason_field : (r : CxlRejReason) → IsField (field 102 (cancel_reject_code r))
cancel_reason_field UnknownOrder = field_from _ refl
cancel_reason_field BrokerOption = field_from _ refl
cancel_reason_field DuplicateClOrdId = field_from _ refl

pub type_field : (t : RefMsgType) → IsField (field 372 (type_code t))
type_field types.NewOrderSingle = field_from _ refl
type_field types.OrderCancelRequest = field_from _ refl
type_field types.OrderCancelReplaceRequest = field_from _ refl

pub reason_field : (r : SessionRejectReason) → IsField (field 373 (reject_code r))
reason_field RequiredTagMissing = field_from _ refl
reason_field TagNotDefined = field_from _ refl
reason_field ValueIncorrect = field_from _ refl
reason_field IncorrectFormat = field_from _ refl
reason_field TagAppearsMoreThanOnce = field_from _ refl

-- a text that a field may have, by computing
pub text_field : (tag : ℕ) (text : List ℕ) → IsTrue (is_field (field tag text)) → IsField (field tag text)
text_field tag text is = field_from (field tag text) is

-- fields and more fields
pub all_append : (fs gs : List Field) → AllByRecursion IsField fs → AllByRecursion IsField gs
    → AllByRecursion IsField (fs ++ gs)
all_append [] gs all more = more
all_append (f ∷ fs) gs all more = (all.0, all_append fs gs all.1 more)

pub ruleset code_fields = (symbol_field, exec_field, status_field, named_field, side_field, response_field, cancel_reason_field, type_field, reason_field, text_field, all_append)
