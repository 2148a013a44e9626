-- Private: the tags of order messages behind the header, as the code names them.
use Rattle.std.specs.Prelude.{ℕ, if◌then◌else◌, List, [], ◌∷◌}
use Rattle.fix_orders.specs.declared.tables.Table.{Table}
use Rattle.fix_orders.specs.declared.tables.Need.{Need}
use Rattle.fix_orders.specs.declared.tables.Need.TheVariants.{Required, Optional, Undefined}
use Rattle.fix_orders.specs.declared.tables.OrderTag.{OrderTag}
use Rattle.fix_orders.specs.declared.tables.OrderTag.TheVariants.{ClOrdId, OrderQty, OrdType, OrigClOrdId, Price, Side, Symbol, TimeInForce, TransactTime}
use Rattle.fix_orders.specs.Reading.{is_among, required, optional}

-- the number of a tag
abbrev pub tag_number : OrderTag → ℕ
tag_number ClOrdId = 11
tag_number OrderQty = 38
tag_number OrdType = 40
tag_number OrigClOrdId = 41
tag_number Price = 44
tag_number Side = 54
tag_number Symbol = 55
tag_number TimeInForce = 59
tag_number TransactTime = 60

-- all of them, from the least on
abbrev pub order_numbers : List ℕ
order_numbers = 11 ∷ 38 ∷ 40 ∷ 41 ∷ 44 ∷ 54 ∷ 55 ∷ 59 ∷ 60 ∷ []

-- the place of a tag among them
abbrev pub tag_place : OrderTag → ℕ
tag_place ClOrdId = 0
tag_place OrderQty = 1
tag_place OrdType = 2
tag_place OrigClOrdId = 3
tag_place Price = 4
tag_place Side = 5
tag_place Symbol = 6
tag_place TimeInForce = 7
tag_place TransactTime = 8

-- what a table does with a tag
abbrev pub need_of : Table → OrderTag → Need
need_of table tag =
    if is_among (required table) (tag_number tag) then Required
    else (if is_among (optional table) (tag_number tag) then Optional else Undefined)
