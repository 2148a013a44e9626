-- Words of the laws of matching.
use Rattle.std.specs.Prelude.{◌≡◌, ◌⊎◌, ⊤, ℕ, ◌-◌, ◌*◌, ◌<◌, ◌≤◌, true, false, not, List, ◌∷◌, length, slice_index, MatchOption, sum_by, ◌&&◌, if◌then◌else◌}
use Rattle.std.specs.List.{AllByRecursion, Contains}
use Rattle.std.specs.Str.{bytes_eq}
use Rattle.fix_frame.specs.Grammar.{IsField}
use Rattle.fix_orders.specs.Text.{text}
use Rattle.venue_model.specs.declared.orders.Side.{Side}
use Rattle.venue_model.specs.declared.orders.Side.TheVariants.{Buy, Sell}
use Rattle.venue_model.specs.declared.orders.Order.{Order}
use Rattle.venue_model.specs.declared.outputs.ExecType.{ExecType}
use Rattle.venue_model.specs.declared.outputs.ExecType.TheVariants.{New, Trade, Canceled, Replaced, Rejected}
use Rattle.venue_model.specs.declared.outputs.Report.{Report}
use Rattle.venue_model.specs.declared.outputs.Report.TheVariants.{Exec, CancelReject, SessionReject}
use Rattle.venue_model.specs.declared.outputs.Output.{Output}
use Rattle.venue_model.specs.Match.{fill}
use Rattle.venue_model.specs.Orders.{same_side, crosses, ahead, leaves}
use Rattle.venue_model.specs.Requests.{State, is_named}
use Rattle.venue_model.specs.Step.{Request}
pub use Rattle.book.specs.Standing.{Pairwise}

-- a price is no worse than a limit: for a buy no higher, for a sell no lower
abbrev pub IsWithin : Side → ℕ → ℕ → Type 0
IsWithin Buy limit price = price ≤ limit
IsWithin Sell limit price = limit ≤ price

-- what happened to an order, if it was a trade, was one at such a price
abbrev pub TradedAt : (ℕ → Type 0) → ExecType → Type 0
TradedAt P New = ⊤
TradedAt P (Trade last_qty last_px) = P last_px
TradedAt P (Canceled orig_cl_ord_id) = ⊤
TradedAt P (Replaced orig_cl_ord_id) = ⊤
TradedAt P (Rejected reason) = ⊤

-- an output, if it tells an order's trade, tells one at such a price of this order
abbrev pub TellsTradeAt : (Order → ℕ → Type 0) → Report → Type 0
TellsTradeAt P (Exec report) = TradedAt (P report.order) report.exec_type
TellsTradeAt P (CancelReject reject) = ⊤
TellsTradeAt P (SessionReject reject) = ⊤

-- an output, if it tells a trade, tells one at a price that keeps the limit of the order in it
abbrev pub KeepsLimit : Output → Type 0
KeepsLimit o = TellsTradeAt (λ order price. IsWithin order.side order.price price) o.report

-- a trade with one of these orders, which the incoming one crosses, at the price of that one: it is told of either side
pub record TradesWithOne (incoming : Order) (orders : List Order) (told : Order) (price : ℕ) : Type 0 where
  pub resting : Order
  pub is_there : Contains orders resting
  pub is_crossed : crosses incoming resting ≡ true
  pub price_is : price ≡ resting.price
  pub told_of : (told.id ≡ resting.id) ⊎ (told.id ≡ incoming.id)

-- an output, if it tells a trade, tells one of the incoming order or of a resting one that it crosses, at the resting one's price
abbrev pub KeepsPrice : Order → List Order → Output → Type 0
KeepsPrice incoming orders o = TellsTradeAt (TradesWithOne incoming orders) o.report

-- an order has a price, one that is in range
abbrev pub HasPrice : Order → Type 0
HasPrice o = (o.is_market ≡ false) × (o.price ≤ 1000000)

-- an incoming order crosses one that rests just where their symbols are one and their sides are two, whatever the price
abbrev pub CrossesAnyPrice : Order → Order → Type 0
CrossesAnyPrice incoming o =
    crosses incoming o ≡ (bytes_eq incoming.symbol o.symbol && not (same_side incoming.side o.side))

-- there are outputs, and the first of them goes to this gateway
abbrev pub AnswersFirst : ℕ → List Output → Type 0
AnswersFirst gateway outputs = (first : Output) × (later : List Output) × (outputs ≡ first ∷ later) × (first.to ≡ gateway)

-- a command comes through one of the eight gateways
pub record IsFromGateway (r : Request) : Type 0 where
  pub from : 1 ≤ r.gateway
  pub to : r.gateway ≤ 8

-- two orders can rest side by side: the first has the earlier stamp, they don't cross, and no client has both under one name
pub record RestBeside (a b : Order) : Type 0 where
  pub earlier : a.stamp < b.stamp
  pub apart : is_named a.client a.cl_ord_id b ≡ false
  pub uncrossed : crosses a b ≡ false

-- an order of one of the eight clients, stamped before this sequence, under a name that is not above its client's greatest,
-- and something is left of it
pub record CanRest (sequence : ℕ) (greatest : List ℕ) (o : Order) : Type 0 where
  pub before : o.stamp < sequence
  pub from : 1 ≤ o.client
  pub to : o.client ≤ 8
  pub name : o.cl_ord_id ≤ slice_index greatest (o.client - 1)
  pub live : o.cum < o.total

-- what stands in every state that commands lead to
pub record IsOrderly (sequence : ℕ) (s : State) : Type 0 where
  pub pairs : Pairwise RestBeside s.orders
  pub each : AllByRecursion (CanRest sequence s.greatest) s.orders
  pub clients : length s.greatest ≡ 8

-- none of these orders crosses another
abbrev pub IsUncrossed : List Order → Type 0
IsUncrossed orders = AllByRecursion (λ a. AllByRecursion (λ b. crosses a b ≡ false) orders) orders

-- it holds of the order that an output tells of, where it tells of one
abbrev pub TellsOf : (Order → Type 0) → Report → Type 0
TellsOf P (Exec report) = P report.order
TellsOf P (CancelReject reject) = MatchOption reject.order ⊤ P
TellsOf P (SessionReject reject) = ⊤

-- CumQty isn't above OrderQty
abbrev pub IsNotOver : Order → Type 0
IsNotOver o = o.cum ≤ o.total

-- the order that an output tells of is not filled over its total
abbrev pub KeepsTotal : Output → Type 0
KeepsTotal o = TellsOf IsNotOver o.report

-- what happened to an order counts by the quantity and the price of its fill, where it is of this side and symbol
abbrev pub fill_counted : (ℕ → ℕ → ℕ) → Side → List ℕ → Order → ExecType → ℕ
fill_counted count side symbol o New = 0
fill_counted count side symbol o (Trade last_qty last_px) =
    if same_side o.side side && bytes_eq o.symbol symbol then count last_qty last_px else 0
fill_counted count side symbol o (Canceled orig_cl_ord_id) = 0
fill_counted count side symbol o (Replaced orig_cl_ord_id) = 0
fill_counted count side symbol o (Rejected reason) = 0

abbrev pub report_counted : (ℕ → ℕ → ℕ) → Side → List ℕ → Report → ℕ
report_counted count side symbol (Exec report) = fill_counted count side symbol report.order report.exec_type
report_counted count side symbol (CancelReject reject) = 0
report_counted count side symbol (SessionReject reject) = 0

-- the quantity that one side traded in a symbol, as outputs tell it: the sum of LastQty
abbrev pub quantity_traded : Side → List ℕ → List Output → ℕ
quantity_traded side symbol outputs = sum_by (λ o. report_counted (λ quantity price. quantity) side symbol o.report) outputs

-- the money that it traded it for: the sum of LastQty times LastPx
abbrev pub money_traded : Side → List ℕ → List Output → ℕ
money_traded side symbol outputs = sum_by (λ o. report_counted (λ quantity price. quantity * price) side symbol o.report) outputs

-- two orders are crossed by an incoming one, of which the first rests, and is ahead of the second
pub record AreCrossed (incoming : Order) (orders : List Order) (first second : Order) : Type 0 where
  pub rests : Contains orders first
  pub crossed : crosses incoming first ≡ true
  pub crossed_too : crosses incoming second ≡ true
  pub leads : ahead first second ≡ true

-- a fill gives the second of two orders something only if it gives the first one all that it had left
abbrev pub GoesFirst : ℕ → List Order → Order → Order → Type 0
GoesFirst quantity queue first second = 0 < fill quantity queue second → fill quantity queue first ≡ leaves first

-- an order that rests is ahead of another of its symbol and side
pub record IsAheadOf (orders : List Order) (first second : Order) : Type 0 where
  pub rests : Contains orders first
  pub symbol : first.symbol ≡ second.symbol
  pub side : first.side ≡ second.side
  pub leads : ahead first second ≡ true

-- what an output says is fields, at whatever place it stands
abbrev pub TellsFields : Output → Type 0
TellsFields o = (place : ℕ) → AllByRecursion IsField (text o place).body
