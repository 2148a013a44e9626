-- Each output's text is fields: an order keeps its symbol, which was spelled as one where it came in.
use Rattle.std.proofs.Common.{◌≡◌, ℕ, nat_le, zero, suc, ◌+◌, Bool, true, false, not, List, [], ◌∷◌, map, subst, sym}
use Rattle.std.proofs.Common.{Option}
use Rattle.std.proofs.Common.{Some, None}
use Rattle.std.specs.Prelude.{⊤, MatchOption, if◌then◌else◌}
use Rattle.std.specs.List.{AllByRecursion}
use mathlib.Core.Option.{some, some-injective, some-ne-none}
use lib.ListN.{get_elem?}
use Rattle.fix_orders.specs.RangeLaws.{NamesSymbol, reads_names}
use Rattle.fix_orders.specs.TextLaws.{TellsSpelled, body_each}
use Rattle.venue_model.specs.History.{Message}
use Rattle.venue_model.specs.Spelling.{IsSpelling}
use Rattle.venue_model.specs.declared.commands.Command.{Command}
use Rattle.venue_model.specs.declared.commands.Command.TheVariants.{New, Cancel, Replace, Malformed, Void}
use Rattle.venue_model.specs.declared.commands.NewOrderSingle.{NewOrderSingle}
use Rattle.venue_model.specs.declared.commands.OrderCancelRequest.{OrderCancelRequest}
use Rattle.venue_model.specs.declared.commands.OrderCancelReplaceRequest.{OrderCancelReplaceRequest}
use Rattle.venue_model.specs.declared.commands.TimeInForce.{TimeInForce}
use Rattle.venue_model.specs.declared.commands.TimeInForce.TheVariants.{Day, ImmediateOrCancel, FillOrKill}
use Rattle.venue_model.specs.declared.orders.Order.{Order}
use Rattle.venue_model.specs.declared.outputs.Cause.{Cause}
use Rattle.venue_model.specs.declared.outputs.CxlRejReason.{CxlRejReason}
use Rattle.venue_model.specs.declared.outputs.ExecType.TheVariants as exec_type
use Rattle.venue_model.specs.declared.outputs.OrdRejReason.{OrdRejReason}
use Rattle.venue_model.specs.declared.outputs.Output.{Output}
use Rattle.venue_model.specs.Orders.{leaves, is_live, crosses}
use Rattle.venue_model.specs.Match.{crossing, after_fill, done, settled, rest, exec, trade, trades, can_fill}
use Rattle.venue_model.specs.Match.{live_alone, matched, canceled_rest, match_outputs}
use Rattle.venue_model.specs.Requests.{Limits, Symbols, State, Stepped, new_refusal, new_answered, entering, is_named}
use Rattle.venue_model.specs.Requests.{terms_of}
use Rattle.venue_model.specs.Requests.{named, others, cancel_refusal, cancel_answered, order_canceled, amended}
use Rattle.venue_model.specs.Requests.{restamped, replace_refusal, replace_answered, order_replaced}
use Rattle.venue_model.specs.Step.{Request, cause, obey, step, empty, outputs_from, requests_from}
use Rattle.venue_model.specs.ReplacedLaws.{either_way}
use Rattle.book.specs.Histories.{reads_at, request_at, outputs_of}
use Rattle.book.specs.Laws.{TellsFields}
use Rattle.book.proofs.Lists.{each-append, each-map, each-filter}
use Rattle.book.proofs.LawLimits.{each-trade}
use Rattle.book.proofs.LawTotals.{found-holds}

abbrev Spelled : Order → Type 0
Spelled o = IsSpelling o.symbol

abbrev Tells : Output → Type 0
Tells o = TellsSpelled o.report

each-changed : (f : Order → Order) → ((o : Order) → Spelled o → Spelled (f o)) → (xs : List Order)
    → AllByRecursion Spelled xs → AllByRecursion Spelled (map f xs)
each-changed f keeps [] all = tt
each-changed f keeps (x ∷ xs) all = (keeps x all.0, each-changed f keeps xs all.1)

-- A MATCH

alone-spelled : (o : Order) → Spelled o → AllByRecursion Spelled (live_alone o)
alone-spelled o is = each-filter Spelled is_live (o ∷ []) (is, tt)

canceled-tells : (c : Cause) (o : Order) → Spelled o → AllByRecursion Tells (canceled_rest c o)
canceled-tells c o is = elim (is_live o) as (λ b. AllByRecursion Tells
    (map (exec c (exec_type.Canceled None)) (if b then o ∷ [] else [])))
    [ true ↦ (is, tt) | false ↦ tt ]

module _ (c : Cause) (i : Order) (orders : List Order) (is : Spelled i) (all : AllByRecursion Spelled orders) where
  trades-tell : AllByRecursion Tells (trades c i orders)
  trades-tell = each-trade c i orders Tells
      (each-map Spelled (λ o. crosses i o ≡ true → AllByRecursion Tells (trade c i (crossing i orders) o))
      (λ o its crossed. (its, (is, tt))) orders all)

  match-tells : (t : TimeInForce) → AllByRecursion Tells (match_outputs c t i orders)
  match-tells Day = trades-tell
  match-tells ImmediateOrCancel = each-append Tells (trades c i orders) (canceled_rest c (done i orders)) trades-tell
      (canceled-tells c (done i orders) is)
  match-tells FillOrKill = elim (can_fill i orders) as (λ b. AllByRecursion Tells
      (if b then trades c i orders else canceled_rest c i))
      [ true ↦ trades-tell | false ↦ canceled-tells c i is ]

  rest-spelled : AllByRecursion Spelled (rest i orders)
  rest-spelled =
      let queue : List Order = crossing i orders in
      each-filter Spelled is_live (map (settled i queue) orders) (each-changed (settled i queue)
      (λ o its. elim (crosses i o) as (λ b. Spelled (if b then after_fill (leaves i) queue o else o))
      [ true ↦ its | false ↦ its ]) orders all)

  matched-spelled : (t : TimeInForce) → AllByRecursion Spelled (matched t i orders)
  matched-spelled Day = each-append Spelled (rest i orders) (live_alone (done i orders)) rest-spelled
      (alone-spelled (done i orders) is)
  matched-spelled ImmediateOrCancel = rest-spelled
  matched-spelled FillOrKill = elim (can_fill i orders) as (λ b. AllByRecursion Spelled
      (if b then rest i orders else orders)) [ true ↦ rest-spelled | false ↦ all ]

-- ONE COMMAND

-- the orders that rest behind a command, and those that its outputs tell of
record Keeps (after : Stepped) : Type 0 where
  rests : AllByRecursion Spelled after.state.orders
  tells : AllByRecursion Tells after.outputs

module _ (s : State) (c : Cause) (all : AllByRecursion Spelled s.orders) where
  new-keeps : (n : NewOrderSingle) (refusal : Option OrdRejReason) → IsSpelling n.symbol
      → Keeps (new_answered s c n refusal)
  new-keeps n (Some reason) is = record { rests = all; tells = (is, tt) }
  new-keeps n None is = record {
    rests = matched-spelled c (entering c n) s.orders is all (terms_of n);
    tells = (is, match-tells c (entering c n) s.orders is all (terms_of n));
  }

  module _ (name : ℕ) where
    its-order : MatchOption (named s c.gateway name) ⊤ Spelled
    its-order = found-holds Spelled (is_named c.gateway name) s.orders all

    left : AllByRecursion Spelled (others s c.gateway name)
    left = each-filter Spelled (λ x. not (is_named c.gateway name x)) s.orders all

  cancel-keeps : (r : OrderCancelRequest) (refusal : Option CxlRejReason) → Keeps (cancel_answered s c r refusal)
  cancel-keeps r (Some reason) = record { rests = all; tells = (tt, tt) }
  cancel-keeps r None = taken (named s c.gateway r.orig_cl_ord_id) (its-order r.orig_cl_ord_id)
    where
      taken : (o : Option Order) → MatchOption o ⊤ Spelled → Keeps (order_canceled s c r o)
      taken None is = record { rests = all; tells = tt }
      taken (Some o) is = record { rests = left r.orig_cl_ord_id; tells = (is, tt) }

  replace-keeps : (r : OrderCancelReplaceRequest) (refusal : Option CxlRejReason)
      → Keeps (replace_answered s c r refusal)
  replace-keeps r (Some reason) = record { rests = all; tells = (tt, tt) }
  replace-keeps r None = by (named s c.gateway r.orig_cl_ord_id) (its-order r.orig_cl_ord_id)
    where
      by : (o : Option Order) → MatchOption o ⊤ Spelled → Keeps (order_replaced s c r o)
      by None is = record { rests = all; tells = tt }
      by (Some o) is =
          let next : Order = restamped c (amended r o) in
          let among : Order → Bool = is_named c.gateway r.orig_cl_ord_id in
          let others_left = left r.orig_cl_ord_id in
          either_way s c r o Keeps (λ stays. record {
            rests = each-changed (λ x. if among x then amended r x else x)
                (λ x its. elim (among x) as (λ b. Spelled (if b then amended r x else x)) [ true ↦ its | false ↦ its ])
                s.orders all;
            tells = (is, tt);
          }) (record {
            rests = matched-spelled c next (others s c.gateway r.orig_cl_ord_id) is others_left Day;
            tells = (is, match-tells c next (others s c.gateway r.orig_cl_ord_id) is others_left Day);
          })

step-keeps : (symbols : Symbols) (s : State) (sequence : ℕ) (r : Request) → NamesSymbol r.command
    → AllByRecursion Spelled s.orders →
    Keeps (step symbols s sequence r)
step-keeps symbols s sequence r names all = obeyed r.command names
  where
    obeyed : (command : Command) → NamesSymbol command → Keeps (obey symbols s sequence r.gateway command)
    obeyed (New time order) names = new-keeps s (cause r.gateway sequence time) all order
        (new_refusal symbols s r.gateway order) names
    obeyed (Cancel time request) names = cancel-keeps s (cause r.gateway sequence time) all request
        (cancel_refusal s r.gateway request)
    obeyed (Replace time request) names = replace-keeps s (cause r.gateway sequence time) all request
        (replace_refusal s r.gateway request)
    obeyed (Malformed time fault) names = record { rests = all; tells = (tt, tt) }
    obeyed Void names = record { rests = all; tells = tt }

-- ANY HISTORY

from-tells : (limits : Limits) (sequence : ℕ) (s : State) (h : List Message) → AllByRecursion Spelled s.orders →
    AllByRecursion Tells (outputs_from limits.symbols sequence s (requests_from (reads_at limits) sequence h))
from-tells limits sequence s [] all = tt
from-tells limits sequence s (m ∷ h) all =
    let r : Request = request_at limits sequence m in
    let kept = step-keeps limits.symbols s sequence r (reads_names (nat_le limits.cut sequence) m.bytes) all in
    each-append Tells (step limits.symbols s sequence r).outputs
    (outputs_from limits.symbols (sequence + 1) (step limits.symbols s sequence r).state
    (requests_from (reads_at limits) (sequence + 1) h)) kept.tells
    (from-tells limits (sequence + 1) (step limits.symbols s sequence r).state h kept.rests)

-- the text of each output of a history is fields
pub texts-fields : (limits : Limits) (h : List Message) → AllByRecursion TellsFields (outputs_of limits h)
texts-fields limits h = each-map Tells TellsFields (λ o is place. body_each o.report (place + 1) is)
    (outputs_of limits h)
    (from-tells limits 0 empty h tt)

-- what holds of each holds of one of them
at-place : (xs : List Output) (i : ℕ) (o : Output) → get_elem? xs i ≡ some o → AllByRecursion TellsFields xs
    → TellsFields o
at-place [] i o at all = absurd (some-ne-none o (sym at))
at-place (x ∷ xs) zero o at all = subst TellsFields (some-injective x o at) all.0
at-place (x ∷ xs) (suc i) o at all = at-place xs i o at all.1

-- so is the text of one
pub tells-fields : (limits : Limits) (h : List Message) (i : ℕ) (o : Output)
    → get_elem? (outputs_of limits h) i ≡ some o
    → TellsFields o
tells-fields limits h i o at = at-place (outputs_of limits h) i o at (texts-fields limits h)
