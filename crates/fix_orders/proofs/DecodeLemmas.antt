-- Commands, step by step.
use Rattle.std.proofs.Common.{◌≡◌, ℕ, Bool, true, false, ◌&&◌, List, Option, Some, None, refl, sym, ap, ◌∙◌}
use Rattle.fix_frame.specs.Bodies.{bytes_left, fields_in}
use Rattle.fix_frame.specs.Grammar.{Field, BeginsWithType}
use Rattle.fix_frame.specs.Runs.{IsRun}
use Rattle.fix_frame.specs.declared.body.Body.{Body}
use Rattle.venue_model.specs.declared.commands.Command.TheVariants.{Void}
use Rattle.venue_model.specs.declared.commands.RefMsgType.{RefMsgType}
use Rattle.fix_orders.specs.declared.fields.Fault.{Fault}
use Rattle.fix_orders.specs.declared.fields.OrderFields.{OrderFields}
use Rattle.fix_orders.specs.declared.header.HeaderFields.{HeaderFields}
use Rattle.fix_orders.specs.declared.tables.OrderTag.{OrderTag}
use Rattle.fix_orders.specs.declared.tables.Table.{Table}
use Rattle.fix_orders.specs.Asking.{AreRight, asked_in}
use Rattle.fix_orders.specs.Findings.{IsFound, IsReadBy, fault_in}
use Rattle.fix_orders.specs.Formats.{number_of_time}
use Rattle.fix_orders.specs.Header.{Header, TakesHeader, header_of, header_by}
use Rattle.fix_orders.specs.OrderTags.{tag_number}
use Rattle.fix_orders.specs.Reading.{ref_type_of, table_of, first_fault, classes, asked, judged_order, judged_by, typed}
use Rattle.fix_orders.specs.Reading.{headed, command_of, value_at}
use Rattle.fix_orders.specs.Values.{value_in}
use Rattle.fix_orders.proofs.WholeLemmas.{HasHeader, has_header, has_type, fault_whole, values_whole, values_right}
use Rattle.fix_orders.proofs.WholeLemmas.{asked_whole, table_whole}

module _ (market : Bool) (fields : List Field) where
  -- a wrong header
  pub void_header : header_of fields ≡ None → Void ≡ command_of market fields
  unfolding command_of
  void_header none = sym (ap (headed market fields) none)

  -- another type
  pub void_type : (h : Header) → header_of fields ≡ Some h → ref_type_of h.msg_type ≡ None → Void ≡ command_of market fields
  unfolding command_of
  void_type h found none = sym (ap (headed market fields) found ∙ ap (typed market h fields) none)

  -- an order message
  judged_is : (h : Header) (kind : RefMsgType) (table : Table) (fault : Option Fault) → header_of fields ≡ Some h
      → ref_type_of h.msg_type ≡ Some kind → table_of market kind fields ≡ table → first_fault classes table fields ≡ fault
      → judged_order table h fields fault ≡ command_of market fields
  unfolding command_of
  judged_is h kind table fault found order read fault_is =
      sym (ap (headed market fields) found ∙ ap (typed market h fields) order ∙ ap (judged_by h fields) read
      ∙ ap (judged_order table h fields) fault_is)

-- What was read of a message: its header and kind, and behind the header the fields, by a table.
module _ {old new : Body} {h : HeaderFields} {market : Bool} {kind : RefMsgType} {type : Option RefMsgType}
    {found : Table × OrderFields} (taken : TakesHeader old new h) (type_is : type ≡ ref_type_of h.msg_type.now)
    (is : type ≡ Some kind) (read : IsReadBy market kind new found) where
  abbrev fields : List Field
  fields = fields_in old

  abbrev head : Header
  head = header_by h (fields_in new)

  whole : HasHeader fields head.rest
  whole = has_header fields head taken.header

  -- it is a run that begins with its type
  pub begins : (IsRun (bytes_left old) → BeginsWithType fields → ⊥) → ⊥
  begins none = none (taken.run.1 read.run) (has_type fields head.rest whole)

  values : (t : OrderTag) → value_in found.1.values t ≡ value_at (tag_number t) fields
  values = values_whole found.0 fields head.rest found.1 whole read.found_in

  -- and its first fault, or none
  module _ {fault : Option Fault}
      (fault_is : (fs : List Field) → IsFound found.0 fs found.1 → fault ≡ fault_in classes found.0 fs) where
    first : first_fault classes found.0 fields ≡ fault
    first = sym (fault_is head.rest read.found_in ∙ fault_whole found.0 fields head.rest whole)

    judged : judged_order found.0 head fields fault ≡ command_of market fields
    judged = judged_is market fields head kind found.0 fault taken.header (sym type_is ∙ is)
        (sym (read.table ∙ table_whole market kind fields head.rest whole)) first

    pub may_ask : fault ≡ None → AreRight found.0 found.1.values
    may_ask none = values_right found.0 fields found.1.values values (first ∙ none)

    pub asks : fault ≡ None → {time : ℕ} → time ≡ number_of_time h.time.now
        → asked_in found.0 time found.1.values ≡ command_of market fields
    asks none {time} time_is =
        asked_whole found.0 time fields found.1.values values ∙ ap (λ (t : ℕ). asked found.0 t fields) time_is
        ∙ ap (judged_order found.0 head fields) (sym none) ∙ judged

    pub is_faulty : (f : Fault) → fault ≡ Some f → judged_order found.0 head fields (Some f) ≡ command_of market fields
    is_faulty f fault_there = ap (judged_order found.0 head fields) (sym fault_there) ∙ judged

-- not both
pub not_second : (a b : Bool) → b ≡ false → (a && b) ≡ false
not_second true b is = is
not_second false b is = refl

pub not_first : (a b : Bool) → a ≡ false → (a && b) ≡ false
not_first true b is = cc
not_first false b is = refl
