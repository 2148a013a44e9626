-- Every resting order has the stamp of a command before: commands stamp what they let rest, and no stamp grows
-- otherwise.
use Rattle.std.proofs.Common.{◌≡◌, ℕ, suc, ◌+◌, ◌<◌, ◌≤◌, true, false, not, List, [], ◌∷◌, length, refl, ap, subst}
use Rattle.std.proofs.Common.{arith, Option, Some, None}
use Rattle.std.specs.Prelude.{if◌then◌else◌}
use Rattle.venue_model.specs.declared.orders.Order.{Order}
use Rattle.venue_model.specs.declared.commands.TimeInForce.{TimeInForce}
use Rattle.venue_model.specs.declared.commands.TimeInForce.TheVariants.{Day, ImmediateOrCancel, FillOrKill}
use Rattle.venue_model.specs.declared.commands.NewOrderSingle.{NewOrderSingle}
use Rattle.venue_model.specs.declared.commands.OrderCancelRequest.{OrderCancelRequest}
use Rattle.venue_model.specs.declared.commands.OrderCancelReplaceRequest.{OrderCancelReplaceRequest}
use Rattle.venue_model.specs.declared.commands.Command.{Command}
use Rattle.venue_model.specs.declared.commands.Command.TheVariants.{New, Cancel, Replace, Malformed, Void}
use Rattle.venue_model.specs.declared.outputs.Cause.{Cause}
use Rattle.venue_model.specs.declared.outputs.OrdRejReason.{OrdRejReason}
use Rattle.venue_model.specs.declared.outputs.CxlRejReason.{CxlRejReason}
use Rattle.venue_model.specs.Orders.{leaves, is_live, crosses}
use Rattle.venue_model.specs.Match.{crossing, after_fill, settled, done, rest, live_alone, can_fill, matched}
use Rattle.venue_model.specs.Requests.{Symbols, State, new_refusal, new_answered, entering, is_named, named, others}
use Rattle.venue_model.specs.Requests.{terms_of}
use Rattle.venue_model.specs.Requests.{cancel_refusal, cancel_answered, order_canceled, replace_refusal}
use Rattle.venue_model.specs.Requests.{replace_answered, restamped, amended, order_replaced}
use Rattle.venue_model.specs.Step.{Request, cause, obey, step, empty, state_from, state, requests_from, requests}
use Rattle.venue_model.specs.History.{Message}
use Rattle.venue_model.specs.ReplacedLaws.{either_way}
use Rattle.book.specs.Standing.{Below}
use Rattle.book.proofs.Lists.{each-append, each-map, each-filter}
use Rattle.book.proofs.LawPairs.{each-mapped}
use Rattle.book.proofs.StandingLemmas.{below_more}

-- A MATCH

module _ (most : ℕ) (i : Order) (orders : List Order) (below : Below most orders) where
  -- a fill keeps the stamp
  settled-below : (queue : List Order) (o : Order) → o.stamp < most → (settled i queue o).stamp < most
  settled-below queue o h = elim (crosses i o) as (λ b. (if b then after_fill (leaves i) queue o else o).stamp < most)
      [ true ↦ h | false ↦ h ]

  rest-below : Below most (rest i orders)
  rest-below = each-filter (λ o. o.stamp < most) is_live _
      (each-mapped (λ o. o.stamp < most) (λ o. o.stamp < most) (settled i (crossing i orders))
      (settled-below (crossing i orders)) orders below)

  alone-below : (o : Order) → o.stamp < most → Below most (live_alone o)
  alone-below o h = elim (is_live o) as (λ b. Below most (if b then o ∷ [] else [])) [ true ↦ (h, tt) | false ↦ tt ]

  matched-below : (t : TimeInForce) → i.stamp < most → Below most (matched t i orders)
  matched-below Day h = each-append (λ o. o.stamp < most) (rest i orders) (live_alone (done i orders)) rest-below
      (alone-below (done i orders) h)
  matched-below ImmediateOrCancel h = rest-below
  matched-below FillOrKill h = elim (can_fill i orders) as (λ b. Below most (if b then rest i orders else orders))
      [ true ↦ rest-below | false ↦ below ]

-- ONE COMMAND

module _ (s : State) (c : Cause) (below : Below (c.sequence + 1) s.orders) where
  new-below : (n : NewOrderSingle) (refusal : Option OrdRejReason)
      → Below (c.sequence + 1) (new_answered s c n refusal).state.orders
  new-below n (Some reason) = below
  new-below n None = matched-below (c.sequence + 1) (entering c n) s.orders below (terms_of n) (omega arith)

  others-below : (client name : ℕ) → Below (c.sequence + 1) (others s client name)
  others-below client name = each-filter (λ o. o.stamp < c.sequence + 1) (λ o. not (is_named client name o)) s.orders
      below

  cancel-below : (r : OrderCancelRequest) (refusal : Option CxlRejReason)
      → Below (c.sequence + 1) (cancel_answered s c r refusal).state.orders
  cancel-below r (Some reason) = below
  cancel-below r None = taken (named s c.gateway r.orig_cl_ord_id)
    where
      taken : (o : Option Order) → Below (c.sequence + 1) (order_canceled s c r o).state.orders
      taken None = below
      taken (Some o) = others-below c.gateway r.orig_cl_ord_id

  -- an order amended in its place keeps its stamp
  amended-below : (r : OrderCancelReplaceRequest) (o : Order) → o.stamp < c.sequence + 1 →
      (if is_named c.gateway r.orig_cl_ord_id o then amended r o else o).stamp < c.sequence + 1
  amended-below r o h = elim (is_named c.gateway r.orig_cl_ord_id o) as (λ b. (if b then amended r o else o).stamp
      < c.sequence + 1) [ true ↦ h | false ↦ h ]

  replace-below : (r : OrderCancelReplaceRequest) (refusal : Option CxlRejReason)
      → Below (c.sequence + 1) (replace_answered s c r refusal).state.orders
  replace-below r (Some reason) = below
  replace-below r None = by (named s c.gateway r.orig_cl_ord_id)
    where
      by : (o : Option Order) → Below (c.sequence + 1) (order_replaced s c r o).state.orders
      by None = below
      by (Some o) = either_way s c r o (λ after. Below (c.sequence + 1) after.state.orders)
          (λ keeps. each-mapped (λ x. x.stamp < c.sequence + 1) (λ x. x.stamp < c.sequence + 1)
          (λ x. if is_named c.gateway r.orig_cl_ord_id x then amended r x else x) (amended-below r) s.orders below)
          (matched-below (c.sequence + 1) (restamped c (amended r o)) (others s c.gateway r.orig_cl_ord_id)
          (others-below c.gateway r.orig_cl_ord_id) Day (omega arith))

step-below : (symbols : Symbols) (sequence : ℕ) (s : State) (r : Request) → Below sequence s.orders
    → Below (sequence + 1) (step symbols s sequence r).state.orders
step-below symbols sequence s r behind = obeyed r.command
  where
    below : Below (sequence + 1) s.orders
    below = below_more s.orders sequence behind

    obeyed : (command : Command) → Below (sequence + 1) (obey symbols s sequence r.gateway command).state.orders
    obeyed (New time n) = new-below s (cause r.gateway sequence time) below n (new_refusal symbols s r.gateway n)
    obeyed (Cancel time q) = cancel-below s (cause r.gateway sequence time) below q (cancel_refusal s r.gateway q)
    obeyed (Replace time q) = replace-below s (cause r.gateway sequence time) below q (replace_refusal s r.gateway q)
    obeyed (Malformed time fault) = below
    obeyed Void = below

-- ANY HISTORY

from-below : (symbols : Symbols) (sequence : ℕ) (s : State) (rs : List Request) → Below sequence s.orders →
    Below (sequence + length rs) (state_from symbols sequence s rs).orders
from-below symbols sequence s [] below = subst (λ n. Below n s.orders) (omega arith) below
from-below symbols sequence s (r ∷ rs) below =
    subst (λ n. Below n (state_from symbols (sequence + 1) (step symbols s sequence r).state rs).orders) (omega arith)
    (from-below symbols (sequence + 1) (step symbols s sequence r).state rs (step-below symbols sequence s r below))

-- every stamp is the sequence of a command
pub state-below : (symbols : Symbols) (rs : List Request) → Below (length rs) (state symbols rs).orders
state-below symbols rs = subst (λ n. Below n (state symbols rs).orders) (omega arith) (from-below symbols 0 empty rs tt)

-- an entry is one command
pub length-requests : (reads : ℕ → Message → Command) (sequence : ℕ) (h : List Message)
    → length (requests_from reads sequence h) ≡ length h
length-requests reads sequence [] = refl
length-requests reads sequence (m ∷ h) = ap suc (length-requests reads (sequence + 1) h)

pub history-below : (reads : ℕ → Message → Command) (symbols : Symbols) (h : List Message)
    → Below (length h) (state symbols (requests reads h)).orders
history-below reads symbols h = subst (λ n. Below n (state symbols (requests reads h)).orders)
    (length-requests reads 0 h) (state-below symbols (requests reads h))

-- so a sequence that isn't among the history's is behind them all
pub history-behind : (reads : ℕ → Message → Command) (symbols : Symbols) (h : List Message) (sequence : ℕ)
    → length h ≤ sequence →
    Below sequence (state symbols (requests reads h)).orders
history-behind reads symbols h sequence past = each-map (λ o. o.stamp < length h) (λ o. o.stamp < sequence)
    (λ o below. omega (arith, below, past))
    (state symbols (requests reads h)).orders (history-below reads symbols h)
