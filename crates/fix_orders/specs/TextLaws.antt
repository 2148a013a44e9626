-- The fields of a report's body are fields, where the report tells of an order whose symbol is spelled as one.
use Rattle.std.proofs.Common.{◌≢◌, ℕ, zero, suc, ◌/◌, ◌%◌, ◌==◌, ◌<◌, ◌≤◌, Bool, true, false, List, [], ◌∷◌, ◌++◌, length, refl, arith, Option, Some, None, cond}
use Rattle.std.specs.Prelude.{⊤}
use Rattle.std.specs.List.{AllByRecursion}
use Rattle.std.specs.Fmt.{digits, digits_onto, digit_glyph}
use Rattle.std.proofs.lemmas.Bool.Decides.{nat_tests}
use Rattle.fix_frame.specs.Ascii.{soh}
use Rattle.fix_frame.specs.Grammar.{Field, IsField, LacksSoh}
use Rattle.venue_model.specs.Spelling.{IsSpelling}
use Rattle.venue_model.specs.declared.orders.Order.{Order}
use Rattle.venue_model.specs.declared.outputs.ExecType.{ExecType}
use Rattle.venue_model.specs.declared.outputs.ExecType.TheVariants.{New, Trade, Canceled, Replaced, Rejected}
use Rattle.venue_model.specs.declared.outputs.OrdRejReason.TheVariants.{BookFull, UnknownSymbol, DuplicateOrder}
use Rattle.venue_model.specs.declared.outputs.Report.{Report}
use Rattle.venue_model.specs.declared.outputs.Report.TheVariants.{Exec, CancelReject, SessionReject}
use Rattle.fix_orders.specs.Text.{field, number, body_fields, exec_fields, event_fields, orig_fields, order_fields, last_fields, filled_fields, refusal_fields, leaves_after, average, named_id}
use Rattle.fix_orders.specs.BodyLaws.{symbol_field, exec_field, status_field, named_field, side_field, response_field, cancel_reason_field, type_field, reason_field, text_field, all_append}

-- NUMBERS

-- a digit is no SOH
not_soh : (d : ℕ) → d < 10 → digit_glyph false d ≢ soh
not_soh d small is = grind (arith, nat_tests)

-- digits in front of what has none have none
lacks_soh : (k n : ℕ) (acc : List ℕ) → LacksSoh acc → LacksSoh (digits_onto k 10 false n acc)
lacks_soh zero n acc lacks = lacks
lacks_soh (suc k) n acc lacks =
    let last : List ℕ = digit_glyph false (n % 10) ∷ acc in
    let more : LacksSoh last = (not_soh (n % 10) (omega arith), lacks) in
    elim (n / 10 == 0) as (λ b. LacksSoh (cond b last (digits_onto k 10 false (n / 10) last)))
    [ true ↦ more | false ↦ lacks_soh k (n / 10) last more ]

-- and there is one at least
some_digit : (k n : ℕ) (acc : List ℕ) → 0 < length (digits_onto (suc k) 10 false n acc)
some_digit zero n acc =
    let last : List ℕ = digit_glyph false (n % 10) ∷ acc in
    elim (n / 10 == 0) as (λ b. 0 < length (cond b last last)) [ true ↦ omega arith | false ↦ omega arith ]
some_digit (suc k) n acc =
    let last : List ℕ = digit_glyph false (n % 10) ∷ acc in
    elim (n / 10 == 0) as (λ b. 0 < length (cond b last (digits_onto (suc k) 10 false (n / 10) last)))
    [ true ↦ omega arith | false ↦ some_digit k (n / 10) last ]

-- a number of any size is a value
number_each : (tag n : ℕ) → 1 ≤ tag → tag ≤ 99999 → IsField (number tag n)
unfolding digits
number_each tag n low high = record { tag_from = low; tag_to = high; valued = some_digit 63 n []; ends = lacks_soh 64 n [] tt }

-- FIELDS

event_each : (kind : ExecType) (o : Order) (exec_id : ℕ) → AllByRecursion IsField (event_fields kind o exec_id)
event_each kind o exec_id = (
  number_each 37 o.id (omega arith) (omega arith),
  (number_each 17 exec_id (omega arith) (omega arith), (exec_field kind, (status_field kind o, (number_each 11 o.cl_ord_id (omega arith) (omega arith), tt)))),
)

orig_each : (kind : ExecType) → AllByRecursion IsField (orig_fields kind)
orig_each New = tt
orig_each (Trade quantity price) = tt
orig_each (Canceled None) = tt
orig_each (Canceled (Some orig)) = (number_each 41 orig (omega arith) (omega arith), tt)
orig_each (Replaced orig) = (number_each 41 orig (omega arith) (omega arith), tt)
orig_each (Rejected reason) = tt

price_each : (is_market : Bool) (price : ℕ) → AllByRecursion IsField (cond is_market [] (number 44 price ∷ []))
price_each true price = tt
price_each false price = (number_each 44 price (omega arith) (omega arith), tt)

order_each : (o : Order) → IsSpelling o.symbol → AllByRecursion IsField (order_fields o)
order_each o spelled = (
  symbol_field o.symbol spelled,
  (side_field o.side, (number_each 38 o.total (omega arith) (omega arith), price_each o.is_market o.price)),
)

last_each : (kind : ExecType) → AllByRecursion IsField (last_fields kind)
last_each New = tt
last_each (Trade quantity price) = (number_each 32 quantity (omega arith) (omega arith), (number_each 31 price (omega arith) (omega arith), tt))
last_each (Canceled orig) = tt
last_each (Replaced orig) = tt
last_each (Rejected reason) = tt

filled_each : (kind : ExecType) (o : Order) → AllByRecursion IsField (filled_fields kind o)
filled_each kind o = (
  number_each 151 (leaves_after kind o) (omega arith) (omega arith),
  (number_each 14 o.cum (omega arith) (omega arith), (number_each 6 (average o) (omega arith) (omega arith), tt)),
)

refusal_each : (kind : ExecType) → AllByRecursion IsField (refusal_fields kind)
refusal_each New = tt
refusal_each (Trade quantity price) = tt
refusal_each (Canceled orig) = tt
refusal_each (Replaced orig) = tt
refusal_each (Rejected BookFull) = (text_field 103 _ refl, (text_field 58 _ refl, tt))
refusal_each (Rejected UnknownSymbol) = (text_field 103 _ refl, tt)
refusal_each (Rejected DuplicateOrder) = (text_field 103 _ refl, tt)

named_each : (o : Option Order) → IsField (field 37 (named_id o))
named_each None = text_field 37 _ refl
named_each (Some o) = number_each 37 o.id (omega arith) (omega arith)

exec_each : (kind : ExecType) (o : Order) (exec_id : ℕ) → IsSpelling o.symbol → AllByRecursion IsField (exec_fields kind o exec_id)
exec_each kind o exec_id spelled =
    let first : List Field = event_fields kind o exec_id ++ orig_fields kind in
    let second : List Field = first ++ order_fields o in
    let third : List Field = second ++ last_fields kind in
    all_append (third ++ filled_fields kind o) (refusal_fields kind)
    (all_append third (filled_fields kind o)
    (all_append second (last_fields kind)
    (all_append first (order_fields o)
    (all_append (event_fields kind o exec_id) (orig_fields kind) (event_each kind o exec_id) (orig_each kind))
    (order_each o spelled)) (last_each kind)) (filled_each kind o)) (refusal_each kind)

-- the symbol of an execution report's order is spelled as one
abbrev pub TellsSpelled : Report → Type 0
TellsSpelled (Exec r) = IsSpelling r.order.symbol
TellsSpelled (CancelReject r) = ⊤
TellsSpelled (SessionReject fault) = ⊤

-- the fields of a body are fields
pub body_each : (report : Report) (exec_id : ℕ) → TellsSpelled report → AllByRecursion IsField (body_fields report exec_id)
body_each (Exec r) exec_id spelled = exec_each r.exec_type r.order exec_id spelled
body_each (CancelReject r) exec_id spelled = (
  named_each r.order,
  (
    number_each 11 r.cl_ord_id (omega arith) (omega arith),
    (
      number_each 41 r.orig_cl_ord_id (omega arith) (omega arith),
      (named_field r.order, (response_field r.response_to, (cancel_reason_field r.reason, tt))),
    ),
  ),
)
body_each (SessionReject fault) exec_id spelled = (
  number_each 45 fault.ref_seq (omega arith) (omega arith),
  (number_each 371 fault.tag (omega arith) (omega arith), (type_field fault.ref_type, (reason_field fault.reason, tt))),
)
