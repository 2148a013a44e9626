-- What a message asks: the command of its bytes (docs/PROFILE.md, "Order messages").
use Rattle.std.specs.Prelude.{ℕ, ◌-◌, Bool, false, not, ◌&&◌, nat_lt, nat_le, ◌==◌, if◌then◌else◌, List, [], ◌∷◌, ◌++◌, length, take, drop, map, filter, min, codes, Option, Some, None}
use Rattle.std.specs.List.{list_all, list_any}
use Rattle.std.specs.Option.{option_map_or}
use Rattle.std.specs.Str.{bytes_eq}
use Rattle.fix_frame.specs.Ascii.{soh}
use Rattle.fix_frame.specs.Grammar.{Field, print_fields, frame_text, fields_of, most_in}
use Rattle.venue_model.specs.declared.commands.Command.{Command}
use Rattle.venue_model.specs.declared.commands.Command.TheVariants.{New, Cancel, Replace, Malformed, Void}
use Rattle.venue_model.specs.declared.commands.NewOrderSingle.{NewOrderSingle}
use Rattle.venue_model.specs.declared.commands.OrderCancelRequest.{OrderCancelRequest}
use Rattle.venue_model.specs.declared.commands.OrderCancelReplaceRequest.{OrderCancelReplaceRequest}
use Rattle.venue_model.specs.declared.commands.SessionRejectReason.{SessionRejectReason}
use Rattle.venue_model.specs.declared.commands.SessionRejectReason.TheVariants.{RequiredTagMissing, TagNotDefined, ValueIncorrect, IncorrectFormat, TagAppearsMoreThanOnce}
use Rattle.venue_model.specs.declared.commands.RefMsgType.{RefMsgType}
use Rattle.venue_model.specs.declared.commands.RefMsgType.TheVariants as types
use Rattle.venue_model.specs.declared.commands.OrdType.{OrdType}
use Rattle.venue_model.specs.declared.commands.OrdType.TheVariants.{Market, Limit}
use Rattle.venue_model.specs.declared.commands.TimeInForce.{TimeInForce}
use Rattle.venue_model.specs.declared.commands.TimeInForce.TheVariants.{Day, ImmediateOrCancel, FillOrKill}
use Rattle.venue_model.specs.declared.orders.Side.{Side}
use Rattle.venue_model.specs.declared.orders.Side.TheVariants.{Buy, Sell}
use Rattle.fix_orders.specs.declared.fields.Fault.{Fault}
use Rattle.fix_orders.specs.declared.tables.Table.{Table}
use Rattle.fix_orders.specs.declared.tables.Table.TheVariants.{LimitOrder, MarketOrder, CancelRequest, ReplaceRequest}
use Rattle.fix_orders.specs.Formats.{value_of, number_of_time, format_of, has_format, is_in_range}
use Rattle.fix_orders.specs.Header.{Header, header_of}

-- a tag of 1 to 5 digits, and a value of one byte or more, none of them SOH
abbrev pub is_field : Field → Bool
is_field f = nat_le 1 f.tag && nat_le f.tag 99999 && nat_lt 0 (length f.value) && list_all (λ b. not (b == soh)) f.value

-- MsgType stands first
abbrev pub begins_with_type : List Field → Bool
begins_with_type [] = false
begins_with_type (f ∷ fields) = f.tag == 35

-- the fields of a body of 5 to 297 bytes
abbrev pub is_body : List Field → Bool
is_body fields =
    list_all is_field fields && begins_with_type fields
    && nat_le 5 (length (print_fields fields)) && nat_le (length (print_fields fields)) most_in

-- the fields of a message without the first two and the last one: BeginString, BodyLength and CheckSum
abbrev pub between : List Field → List Field
between fields = take (length fields - 3) (drop 2 fields)

-- the body's fields, where the bytes are exactly one frame
unfoldable pub exact_fields : List ℕ → Option (List Field)
exact_fields bytes =
    let fields = between (fields_of bytes) in
    if is_body fields && bytes_eq bytes (frame_text fields) then Some fields else None

-- the tags of fields
abbrev pub tags : List Field → List ℕ
tags fields = map (λ f. f.tag) fields

-- the value of the first field of this tag; nothing where there is none
abbrev pub value_at : ℕ → List Field → List ℕ
value_at tag [] = []
value_at tag (f ∷ fields) = if f.tag == tag then f.value else value_at tag fields

-- the number of this tag
abbrev pub number_at : ℕ → List Field → ℕ
number_at tag fields = value_of (value_at tag fields)

-- MsgType (35): D, F and G are order messages
abbrev pub ref_type_of : List ℕ → Option RefMsgType
ref_type_of value =
    if bytes_eq value (codes "D") then Some types.NewOrderSingle
    else (if bytes_eq value (codes "F") then Some types.OrderCancelRequest
    else (if bytes_eq value (codes "G") then Some types.OrderCancelReplaceRequest else None))

-- the tags that a table requires behind the header, from the smallest on
abbrev pub required : Table → List ℕ
required LimitOrder = 11 ∷ 38 ∷ 40 ∷ 44 ∷ 54 ∷ 55 ∷ 60 ∷ []
required MarketOrder = 11 ∷ 38 ∷ 40 ∷ 54 ∷ 55 ∷ 60 ∷ []
required CancelRequest = 11 ∷ 38 ∷ 41 ∷ 54 ∷ 55 ∷ 60 ∷ []
required ReplaceRequest = 11 ∷ 38 ∷ 40 ∷ 41 ∷ 44 ∷ 54 ∷ 55 ∷ 60 ∷ []

-- the tags that it allows besides
abbrev pub optional : Table → List ℕ
optional LimitOrder = 59 ∷ []
optional MarketOrder = 59 ∷ []
optional CancelRequest = []
optional ReplaceRequest = 59 ∷ []

-- BeginString, BodyLength and CheckSum
abbrev pub frame_tags : List ℕ
frame_tags = 8 ∷ 9 ∷ 10 ∷ []

abbrev pub header_tags : List ℕ
header_tags = 35 ∷ 49 ∷ 56 ∷ 34 ∷ 52 ∷ []

-- the tag is one of these
abbrev pub is_among : List ℕ → ℕ → Bool
is_among all tag = list_any (λ t. t == tag) all

-- the tag is in the table
abbrev pub is_defined : Table → ℕ → Bool
is_defined table tag = is_among (frame_tags ++ header_tags ++ required table ++ optional table) tag

-- how often a tag stands in the whole message
abbrev pub times : ℕ → List Field → ℕ
times tag fields = length (filter (λ t. t == tag) (frame_tags ++ tags fields))

-- a field of a message is wrong for this reason
abbrev pub is_wrong : SessionRejectReason → Table → List Field → Field → Bool
is_wrong TagAppearsMoreThanOnce table fields f = nat_lt 1 (times f.tag fields)
is_wrong TagNotDefined table fields f = not (is_defined table f.tag)
is_wrong RequiredTagMissing table fields f = false
is_wrong IncorrectFormat table fields f = not (has_format (format_of table f.tag) f.value)
is_wrong ValueIncorrect table fields f =
    has_format (format_of table f.tag) f.value && not (is_in_range (format_of table f.tag) f.value)

-- the tags of the wrong fields
abbrev pub wrong_tags : SessionRejectReason → Table → List Field → List ℕ
wrong_tags reason table fields = tags (filter (is_wrong reason table fields) fields)

-- the required tags that no field has
abbrev pub missing_tags : Table → List Field → List ℕ
missing_tags table fields = filter (λ t. not (is_among (tags fields) t)) (required table)

-- the tags at fault for this reason
abbrev pub faulty_tags : SessionRejectReason → Table → List Field → List ℕ
faulty_tags RequiredTagMissing table fields = missing_tags table fields
faulty_tags reason table fields = wrong_tags reason table fields

-- the order in which reasons are chosen: SessionRejectReason (373) 13, 2, 1, 6, 5
abbrev pub classes : List SessionRejectReason
classes = TagAppearsMoreThanOnce ∷ TagNotDefined ∷ RequiredTagMissing ∷ IncorrectFormat ∷ ValueIncorrect ∷ []

-- the lesser of a number and another, where there is one
abbrev pub lesser : ℕ → Option ℕ → ℕ
lesser n None = n
lesser n (Some m) = min n m

-- the least of some numbers
abbrev pub least : List ℕ → Option ℕ
least [] = None
least (n ∷ ns) = Some (lesser n (least ns))

-- a fault of this reason at this tag, or else what comes next
abbrev pub or_next : SessionRejectReason → Option ℕ → Option Fault → Option Fault
or_next reason (Some tag) next = Some (record { reason = reason; tag = tag })
or_next reason None next = next

-- the first of these reasons for which a tag is wrong, and its least tag
abbrev pub first_fault : List SessionRejectReason → Table → List Field → Option Fault
first_fault [] table fields = None
first_fault (r ∷ rs) table fields = or_next r (least (faulty_tags r table fields)) (first_fault rs table fields)

-- Side (54)
abbrev pub side_of : List ℕ → Side
side_of value = if bytes_eq value (codes "1") then Buy else Sell

-- TimeInForce (59); where there is none, the order is for the day
abbrev pub time_in_force_of : List ℕ → TimeInForce
time_in_force_of value =
    if bytes_eq value (codes "3") then ImmediateOrCancel else (if bytes_eq value (codes "4") then FillOrKill else Day)

-- NewOrderSingle
abbrev pub new_of : OrdType → List Field → NewOrderSingle
new_of ord_type fields = record {
  cl_ord_id = number_at 11 fields;
  symbol = value_at 55 fields;
  side = side_of (value_at 54 fields);
  ord_type = ord_type;
  quantity = number_at 38 fields;
  time_in_force = time_in_force_of (value_at 59 fields);
}

-- OrderCancelRequest
abbrev pub cancel_of : List Field → OrderCancelRequest
cancel_of fields = record {
  cl_ord_id = number_at 11 fields;
  orig_cl_ord_id = number_at 41 fields;
  symbol = value_at 55 fields;
  side = side_of (value_at 54 fields);
}

-- OrderCancelReplaceRequest
abbrev pub replace_of : List Field → OrderCancelReplaceRequest
replace_of fields = record {
  cl_ord_id = number_at 11 fields;
  orig_cl_ord_id = number_at 41 fields;
  symbol = value_at 55 fields;
  side = side_of (value_at 54 fields);
  price = number_at 44 fields;
  quantity = number_at 38 fields;
  time_in_force = time_in_force_of (value_at 59 fields);
}

-- the fields of a message without a fault, as the command that they ask
abbrev pub asked : Table → ℕ → List Field → Command
asked LimitOrder time fields = New time (new_of (Limit (number_at 44 fields)) fields)
asked MarketOrder time fields = New time (new_of Market fields)
asked CancelRequest time fields = Cancel time (cancel_of fields)
asked ReplaceRequest time fields = Replace time (replace_of fields)

-- the type whose messages a table is for
abbrev pub ref_type : Table → RefMsgType
ref_type LimitOrder = types.NewOrderSingle
ref_type MarketOrder = types.NewOrderSingle
ref_type CancelRequest = types.OrderCancelRequest
ref_type ReplaceRequest = types.OrderCancelReplaceRequest

-- the table of a type, and of market orders
abbrev pub table_for : RefMsgType → Bool → Table
table_for types.NewOrderSingle asks_market = if asks_market then MarketOrder else LimitOrder
table_for types.OrderCancelRequest asks_market = CancelRequest
table_for types.OrderCancelReplaceRequest asks_market = ReplaceRequest

-- OrdType (40) is 1
abbrev pub asks_market : List ℕ → Bool
asks_market value = bytes_eq value (codes "1")

-- the table by which a message of this type is read, and whether market orders are read
abbrev pub table_of : Bool → RefMsgType → List Field → Table
table_of market type fields = table_for type (market && asks_market (value_at 40 fields))

-- the command of an order message, by its one fault or by its fields
abbrev pub judged_order : Table → Header → List Field → Option Fault → Command
judged_order table header fields None = asked table (number_of_time header.time) fields
judged_order table header fields (Some fault) =
    Malformed (number_of_time header.time) (record {
      reason = fault.reason;
      tag = fault.tag;
      ref_seq = header.number;
      ref_type = ref_type table;
    })

-- the command of an order message by a table
abbrev pub judged_by : Header → List Field → Table → Command
judged_by header fields table = judged_order table header fields (first_fault classes table fields)

-- the command of a message of this type
abbrev pub typed : Bool → Header → List Field → Option RefMsgType → Command
typed market header fields None = Void
typed market header fields (Some type) = judged_by header fields (table_of market type fields)

-- the command of a message with this header
abbrev pub headed : Bool → List Field → Option Header → Command
headed market fields None = Void
headed market fields (Some header) = typed market header fields (ref_type_of header.msg_type)

-- the command of a frame with these body fields, and whether market orders are read
unfoldable pub command_of : Bool → List Field → Command
command_of market fields = headed market fields (header_of fields)

-- The command of an entry's bytes, and whether market orders are read; none but exactly one frame asks anything.
unfoldable pub reads : Bool → List ℕ → Command
reads market bytes = option_map_or (command_of market) (exact_fields bytes) Void
