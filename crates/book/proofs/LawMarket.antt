-- What rests has a price that is in range: commands let limit orders rest alone. So a market order crosses each that
-- rests of its symbol and of the other side.
use Rattle.std.proofs.Common.{◌≡◌, ◌≢◌, ℕ, ◌+◌, ◌≤◌, Bool, true, false, not, ◌&&◌, nat_le, List, [], ◌∷◌, length, ap}
use Rattle.std.proofs.Common.{◌∙◌}
use Rattle.std.proofs.Common.{subst, refl, Option, Some, None}
use Rattle.std.specs.Prelude.{if◌then◌else◌, find}
use Rattle.std.specs.List.{AllByRecursion, list_any}
use Rattle.std.specs.Str.{bytes_eq}
use Rattle.venue_model.specs.declared.orders.Order.{Order}
use Rattle.venue_model.specs.declared.commands.OrdType.TheVariants.{Market}
use Rattle.venue_model.specs.declared.commands.TimeInForce.{TimeInForce}
use Rattle.venue_model.specs.declared.commands.TimeInForce.TheVariants.{Day, ImmediateOrCancel, FillOrKill}
use Rattle.venue_model.specs.declared.commands.NewOrderSingle.{NewOrderSingle}
use Rattle.venue_model.specs.declared.commands.OrderCancelRequest.{OrderCancelRequest}
use Rattle.venue_model.specs.declared.commands.OrderCancelReplaceRequest.{OrderCancelReplaceRequest}
use Rattle.venue_model.specs.declared.commands.Command.{Command}
use Rattle.venue_model.specs.declared.commands.Command.TheVariants.{New, Cancel, Replace, Malformed, Void}
use Rattle.venue_model.specs.declared.outputs.Cause.{Cause}
use Rattle.venue_model.specs.declared.outputs.OrdRejReason.{OrdRejReason}
use Rattle.venue_model.specs.declared.outputs.OrdRejReason.TheVariants.{BookFull, UnknownSymbol, DuplicateOrder}
use Rattle.venue_model.specs.declared.outputs.CxlRejReason.{CxlRejReason}
use Rattle.venue_model.specs.History.{History, Message}
use Rattle.venue_model.specs.Orders.{leaves, is_live, crosses, is_market, price_of, meets}
use Rattle.venue_model.specs.Match.{crossing, after_fill, settled, done, rest, live_alone, can_fill, matched}
use Rattle.venue_model.specs.ReplacedLaws.{either_way}
use Rattle.venue_model.specs.Requests.{Limits, Symbols, State, is_day, at_once, terms_of, most_resting, new_refusal}
use Rattle.venue_model.specs.Requests.{new_answered}
use Rattle.venue_model.specs.Requests.{entering, is_named, named, others, greatest_of, cancel_refusal, cancel_answered}
use Rattle.venue_model.specs.Requests.{order_canceled, replace_refusal, replace_answered, restamped, amended}
use Rattle.venue_model.specs.Requests.{order_replaced}
use Rattle.venue_model.specs.SideLaws.{market_meets}
use Rattle.venue_model.specs.Step.{Request, IsCommand, cause, obey, step, empty, state_from, requests_from}
use Rattle.fix_orders.specs.RangeLaws.{reads_within}
use Rattle.book.specs.Histories.{reads_at, state_of}
use Rattle.book.specs.Laws.{HasPrice, CrossesAnyPrice}
use Rattle.book.proofs.Lists.{each-append, each-map, each-filter}
use Rattle.book.proofs.LawPairs.{each-mapped}
use Rattle.book.proofs.RequestLemmas.{limit-rests, price-most}

-- A MATCH

module _ (i : Order) (orders : List Order) (all : AllByRecursion HasPrice orders) where
  -- a fill keeps the price
  settled-priced : (queue : List Order) (o : Order) → HasPrice o → HasPrice (settled i queue o)
  settled-priced queue o h = elim (crosses i o) as (λ b. HasPrice (if b then after_fill (leaves i) queue o else o))
      [ true ↦ h | false ↦ h ]

  rest-priced : AllByRecursion HasPrice (rest i orders)
  rest-priced = each-filter HasPrice is_live _
      (each-mapped HasPrice HasPrice (settled i (crossing i orders)) (settled-priced (crossing i orders)) orders all)

  alone-priced : (o : Order) → HasPrice o → AllByRecursion HasPrice (live_alone o)
  alone-priced o h = elim (is_live o) as (λ b. AllByRecursion HasPrice (if b then o ∷ [] else []))
      [ true ↦ (h, tt) | false ↦ tt ]

  matched-priced : (t : TimeInForce) → (is_day t ≡ true → HasPrice i) → AllByRecursion HasPrice (matched t i orders)
  matched-priced Day h = each-append HasPrice (rest i orders) (live_alone (done i orders)) rest-priced
      (alone-priced (done i orders) (h refl))
  matched-priced ImmediateOrCancel h = rest-priced
  matched-priced FillOrKill h = elim (can_fill i orders) as
      (λ b. AllByRecursion HasPrice (if b then rest i orders else orders))
      [ true ↦ rest-priced | false ↦ all ]

-- ONE COMMAND

-- what is found is one of them
pub found-each : (P : Order → Type 0) (p : Order → Bool) (xs : List Order) (o : Order) → AllByRecursion P xs
    → find p xs ≡ Some o → P o
found-each P p [] o h found = cc
found-each P p (x ∷ xs) o h found = elim (p x) as (λ b. (if b then Some x else find p xs) ≡ Some o → P o) [
  | true ↦ λ is. let same : x ≡ o = cc in subst P same h.0
  | false ↦ λ is. found-each P p xs o h.1 is
] found

module _ (s : State) (c : Cause) (all : AllByRecursion HasPrice s.orders) where
  new-priced : (n : NewOrderSingle) (refusal : Option OrdRejReason) → IsCommand (New c.sending_time n)
      → AllByRecursion HasPrice (new_answered s c n refusal).state.orders
  new-priced n (Some reason) is = all
  new-priced n None is = matched-priced (entering c n) s.orders all (terms_of n)
      (λ day. (limit-rests n day, price-most n.side n.ord_type is.1))

  others-priced : (client name : ℕ) → AllByRecursion HasPrice (others s client name)
  others-priced client name = each-filter HasPrice (λ o. not (is_named client name o)) s.orders all

  cancel-priced : (r : OrderCancelRequest) (refusal : Option CxlRejReason)
      → AllByRecursion HasPrice (cancel_answered s c r refusal).state.orders
  cancel-priced r (Some reason) = all
  cancel-priced r None = taken (named s c.gateway r.orig_cl_ord_id)
    where
      taken : (o : Option Order) → AllByRecursion HasPrice (order_canceled s c r o).state.orders
      taken None = all
      taken (Some o) = others-priced c.gateway r.orig_cl_ord_id

  -- an order amended in its place is still one with a price
  amended-priced : (r : OrderCancelReplaceRequest) → r.price ≤ 1000000 → (o : Order) → HasPrice o
      → HasPrice (if is_named c.gateway r.orig_cl_ord_id o then amended r o else o)
  amended-priced r most o h = elim (is_named c.gateway r.orig_cl_ord_id o) as
      (λ b. HasPrice (if b then amended r o else o))
      [ true ↦ (h.0, most) | false ↦ h ]

  replace-priced : (r : OrderCancelReplaceRequest) (refusal : Option CxlRejReason) → r.price ≤ 1000000
      → AllByRecursion HasPrice (replace_answered s c r refusal).state.orders
  replace-priced r (Some reason) most = all
  replace-priced r None most = by (named s c.gateway r.orig_cl_ord_id) refl
    where
      by : (o : Option Order) → named s c.gateway r.orig_cl_ord_id ≡ o
          → AllByRecursion HasPrice (order_replaced s c r o).state.orders
      by None found = all
      by (Some o) found = either_way s c r o (λ after. AllByRecursion HasPrice after.state.orders)
          (λ keeps. each-mapped HasPrice HasPrice
          (λ x. if is_named c.gateway r.orig_cl_ord_id x then amended r x else x)
          (amended-priced r most) s.orders all)
          (matched-priced (restamped c (amended r o)) (others s c.gateway r.orig_cl_ord_id)
          (others-priced c.gateway r.orig_cl_ord_id) Day
          (λ day. ((found-each HasPrice (is_named c.gateway r.orig_cl_ord_id) s.orders o all found).0, most)))

step-priced : (symbols : Symbols) (sequence : ℕ) (s : State) (r : Request) → IsCommand r.command
    → AllByRecursion HasPrice s.orders → AllByRecursion HasPrice (step symbols s sequence r).state.orders
step-priced symbols sequence s r is all = obeyed r.command is
  where
    obeyed : (command : Command) → IsCommand command
        → AllByRecursion HasPrice (obey symbols s sequence r.gateway command).state.orders
    obeyed (New time n) is = new-priced s (cause r.gateway sequence time) all n (new_refusal symbols s r.gateway n) is
    obeyed (Cancel time q) is = cancel-priced s (cause r.gateway sequence time) all q (cancel_refusal s r.gateway q)
    obeyed (Replace time q) is =
        replace-priced s (cause r.gateway sequence time) all q (replace_refusal s r.gateway q) is.2.1
    obeyed (Malformed time fault) is = all
    obeyed Void is = all

-- ANY HISTORY

from-priced : (symbols : Symbols) (reads : ℕ → Message → Command) → ((n : ℕ) (m : Message) → IsCommand (reads n m))
    → (sequence : ℕ) (s : State) (h : List Message) → AllByRecursion HasPrice s.orders
    → AllByRecursion HasPrice (state_from symbols sequence s (requests_from reads sequence h)).orders
from-priced symbols reads are sequence s [] all = all
from-priced symbols reads are sequence s (m ∷ h) all =
    let r : Request = record { gateway = m.gateway; command = reads sequence m } in
    from-priced symbols reads are (sequence + 1) (step symbols s sequence r).state h
    (step-priced symbols sequence s r (are sequence m) all)

-- what rests after any history has a price
pub rests-priced : (limits : Limits) (h : History) → AllByRecursion HasPrice (state_of limits h).orders
rests-priced limits h = from-priced limits.symbols (reads_at limits)
    (λ n m. reads_within (nat_le limits.cut n) m.bytes) 0 empty h tt

-- MARKET ORDERS

crosses-any : (c : Cause) (n : NewOrderSingle) → n.ord_type ≡ Market → (o : Order) → HasPrice o
    → CrossesAnyPrice (entering c n) o
crosses-any c n market o priced = ap (λ p. bytes_eq n.symbol o.symbol && p)
    (ap (λ t. meets n.side (price_of n.side t) o.side o.price) market ∙ market_meets n.side o.side o.price priced.1)

-- a market order crosses whatever rests of its symbol and the other side
pub market-crosses : (limits : Limits) (h : History) (c : Cause) (n : NewOrderSingle) → n.ord_type ≡ Market
    → AllByRecursion (CrossesAnyPrice (entering c n)) (state_of limits h).orders
market-crosses limits h c n market = each-map HasPrice (CrossesAnyPrice (entering c n)) (crosses-any c n market)
    (state_of limits h).orders (rests-priced limits h)

-- and nothing of it rests
pub not-day : (n : NewOrderSingle) → n.ord_type ≡ Market → is_day (terms_of n) ≡ false
not-day n market = ap (λ t. is_day (if is_market t then at_once n.time_in_force else n.time_in_force)) market
    ∙ never n.time_in_force
  where
    never : (t : TimeInForce) → is_day (at_once t) ≡ false
    never Day = refl
    never ImmediateOrCancel = refl
    never FillOrKill = refl

-- so it is never refused because the book is full
pub market-has-room : (symbols : Symbols) (s : State) (client : ℕ) (n : NewOrderSingle) → n.ord_type ≡ Market
    → new_refusal symbols s client n ≢ Some BookFull
market-has-room symbols s client n market =
    by (nat_le n.cl_ord_id (greatest_of s client)) (not (list_any (bytes_eq n.symbol) symbols))
    (is_day (terms_of n)) (nat_le most_resting (length s.orders)) (not-day n market)
  where
    by : (stale unknown day full : Bool) → day ≡ false
        → (if stale then Some DuplicateOrder else (if unknown then Some UnknownSymbol
        else (if day && full then Some BookFull else None))) ≢ Some BookFull
    by true unknown day full none is = cc
    by false true day full none is = cc
    by false false true full none is = cc
    by false false false full none is = cc
