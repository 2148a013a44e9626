-- Private: what the values of a message without a fault ask.
use Rattle.std.specs.Prelude.{◌≡◌, ℕ, IsTrue}
use Rattle.venue_model.specs.declared.commands.Command.{Command}
use Rattle.venue_model.specs.declared.commands.Command.TheVariants.{New, Cancel, Replace}
use Rattle.venue_model.specs.declared.commands.NewOrderSingle.{NewOrderSingle}
use Rattle.venue_model.specs.declared.commands.OrderCancelRequest.{OrderCancelRequest}
use Rattle.venue_model.specs.declared.commands.OrderCancelReplaceRequest.{OrderCancelReplaceRequest}
use Rattle.venue_model.specs.declared.commands.OrdType.{OrdType}
use Rattle.venue_model.specs.declared.commands.OrdType.TheVariants.{Market, Limit}
use Rattle.fix_orders.specs.declared.tables.Table.{Table}
use Rattle.fix_orders.specs.declared.tables.Table.TheVariants.{LimitOrder, MarketOrder, CancelRequest, ReplaceRequest}
use Rattle.fix_orders.specs.declared.tables.Need.TheVariants.{Required}
use Rattle.fix_orders.specs.declared.tables.OrderTag.{OrderTag}
use Rattle.fix_orders.specs.declared.tables.OrderTag.TheVariants.{ClOrdId, OrderQty, OrigClOrdId, Price, Side, Symbol, TimeInForce}
use Rattle.fix_orders.specs.declared.values.Values.{Values}
use Rattle.fix_orders.specs.Formats.{value_of, format_of, has_format, is_in_range}
use Rattle.fix_orders.specs.OrderTags.{tag_number, need_of}
use Rattle.fix_orders.specs.Reading.{side_of, time_in_force_of}
use Rattle.fix_orders.specs.Values.{value_in}

-- the value of each required tag is of its format and in its range
pub record AreRight (table : Table) (values : Values) : Type 0 where
  pub format : (tag : OrderTag) → need_of table tag ≡ Required
      → IsTrue (has_format (format_of table (tag_number tag)) (value_in values tag))
  pub range : (tag : OrderTag) → need_of table tag ≡ Required
      → IsTrue (is_in_range (format_of table (tag_number tag)) (value_in values tag))

-- the number of a tag
abbrev pub number_in : Values → OrderTag → ℕ
number_in values tag = value_of (value_in values tag)

-- NewOrderSingle
abbrev pub new_in : OrdType → Values → NewOrderSingle
new_in ord_type values = record {
  cl_ord_id = number_in values ClOrdId;
  symbol = value_in values Symbol;
  side = side_of (value_in values Side);
  ord_type = ord_type;
  quantity = number_in values OrderQty;
  time_in_force = time_in_force_of (value_in values TimeInForce);
}

-- OrderCancelRequest
abbrev pub cancel_in : Values → OrderCancelRequest
cancel_in values = record {
  cl_ord_id = number_in values ClOrdId;
  orig_cl_ord_id = number_in values OrigClOrdId;
  symbol = value_in values Symbol;
  side = side_of (value_in values Side);
}

-- OrderCancelReplaceRequest
abbrev pub replace_in : Values → OrderCancelReplaceRequest
replace_in values = record {
  cl_ord_id = number_in values ClOrdId;
  orig_cl_ord_id = number_in values OrigClOrdId;
  symbol = value_in values Symbol;
  side = side_of (value_in values Side);
  price = number_in values Price;
  quantity = number_in values OrderQty;
  time_in_force = time_in_force_of (value_in values TimeInForce);
}

-- what these values ask
abbrev pub asked_in : Table → ℕ → Values → Command
asked_in LimitOrder time values = New time (new_in (Limit (number_in values Price)) values)
asked_in MarketOrder time values = New time (new_in Market values)
asked_in CancelRequest time values = Cancel time (cancel_in values)
asked_in ReplaceRequest time values = Replace time (replace_in values)
