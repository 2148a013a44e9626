-- No order is ever told to be filled over its total; a fill-or-kill order is filled whole or not at all.
use Rattle.std.proofs.Common.{◌≡◌, ℕ, ◌+◌, ◌<◌, ◌≤◌, Bool, true, false, not, nat_le, List, [], ◌∷◌, map, refl, ap}
use Rattle.std.proofs.Common.{arith, Option, Some, None}
use Rattle.std.specs.Prelude.{sum_by, filter, find, MatchOption, ⊤, if◌then◌else◌}
use Rattle.std.specs.List.{AllByRecursion}
use Rattle.std.proofs.lemmas.List.Sums.{sum_by-cons}
use Rattle.std.proofs.lemmas.Bool.Decides.{nat_tests}
use Rattle.venue_model.specs.declared.orders.Order.{Order}
use Rattle.venue_model.specs.declared.commands.TimeInForce.{TimeInForce}
use Rattle.venue_model.specs.declared.commands.TimeInForce.TheVariants.{Day, ImmediateOrCancel, FillOrKill}
use Rattle.venue_model.specs.declared.commands.NewOrderSingle.{NewOrderSingle}
use Rattle.venue_model.specs.declared.commands.OrderCancelRequest.{OrderCancelRequest}
use Rattle.venue_model.specs.declared.commands.OrderCancelReplaceRequest.{OrderCancelReplaceRequest}
use Rattle.venue_model.specs.declared.commands.Command.{Command}
use Rattle.venue_model.specs.declared.commands.Command.TheVariants.{New, Cancel, Replace, Malformed, Void}
use Rattle.venue_model.specs.declared.outputs.Cause.{Cause}
use Rattle.venue_model.specs.declared.outputs.OrdRejReason.{OrdRejReason}
use Rattle.venue_model.specs.declared.outputs.CxlRejReason.{CxlRejReason}
use Rattle.venue_model.specs.declared.outputs.CxlRejReason.TheVariants.{DuplicateClOrdId}
use Rattle.venue_model.specs.declared.outputs.ExecType.TheVariants as exec_type
use Rattle.venue_model.specs.Orders.{leaves, is_live, crosses, ahead}
use Rattle.venue_model.specs.Match.{crossing, fill, done, rest, exec, trade, trades, can_fill, matched, canceled_rest}
use Rattle.venue_model.specs.Match.{match_outputs}
use Rattle.venue_model.specs.Requests.{Symbols, State, greatest_of, new_refusal, new_answered, entering, is_named}
use Rattle.venue_model.specs.Requests.{terms_of}
use Rattle.venue_model.specs.Requests.{named, others, unfit, cancel_refusal, cancel_answered, order_canceled}
use Rattle.venue_model.specs.Requests.{replace_fits, replace_refusal, replace_answered, restamped, amended}
use Rattle.venue_model.specs.Requests.{order_replaced}
use Rattle.venue_model.specs.Step.{Request, cause, obey, step, empty, outputs_from, outputs}
use Rattle.book.specs.Standing.{Rising}
use Rattle.book.specs.Laws.{IsFromGateway, CanRest, IsOrderly, IsNotOver, KeepsTotal}
use Rattle.book.proofs.Lists.{each-append, each-map, each-filter}
use Rattle.book.proofs.LawLimits.{each-trade}
use Rattle.book.proofs.LawSums.{rising-filter, sum-crossed, done-sum, done-within}
use Rattle.book.proofs.LawCrossed.{rising-pairs}
use Rattle.venue_model.specs.ReplacedLaws.{either_way}
use Rattle.book.proofs.LawOrderly.{not-second, fit-one, something-left, step-orderly}

sum-filter : (f : Order → ℕ) (p : Order → Bool) (xs : List Order) → sum_by f (filter p xs) ≤ sum_by f xs
sum-filter f p [] = omega arith
sum-filter f p (x ∷ xs) =
    let more = sum-filter f p xs in
    let whole = sum_by-cons f x xs in
    let some = sum_by-cons f x (filter p xs) in
    elim (p x) as (λ b. sum_by f (if b then x ∷ filter p xs else filter p xs) ≤ sum_by f (x ∷ xs))
    [ true ↦ omega (arith, more, whole, some) | false ↦ omega (arith, more, whole) ]

-- A MATCH

module _ (c : Cause) (i : Order) (orders : List Order) (rising : Rising orders) (each : AllByRecursion IsNotOver orders)
    (within : i.cum ≤ i.total) where
  trades-total : AllByRecursion KeepsTotal (trades c i orders)
  trades-total = each-trade c i orders KeepsTotal
      (each-map IsNotOver (λ o. crosses i o ≡ true → AllByRecursion KeepsTotal (trade c i (crossing i orders) o))
      (λ o h crossed.
      let queue : List Order = crossing i orders in
      let some = sum-filter (fill (leaves i) queue) (λ x. not (ahead o x)) queue in
      let all = sum-crossed i orders (leaves i) rising in
      (omega (arith, h), (omega (arith, some, all, within), tt))) orders each)

  canceled-total : (o : Order) → o.cum ≤ o.total → AllByRecursion KeepsTotal (canceled_rest c o)
  canceled-total o h = elim (is_live o) as (λ b. AllByRecursion KeepsTotal
      (map (exec c (exec_type.Canceled None)) (if b then o ∷ [] else [])))
      [ true ↦ (h, tt) | false ↦ tt ]

  match-total : (t : TimeInForce) → AllByRecursion KeepsTotal (match_outputs c t i orders)
  match-total Day = trades-total
  match-total ImmediateOrCancel = each-append KeepsTotal (trades c i orders) (canceled_rest c (done i orders))
      trades-total
      (canceled-total (done i orders) (done-within i orders rising within))
  match-total FillOrKill = elim (can_fill i orders) as (λ b. AllByRecursion KeepsTotal
      (if b then trades c i orders else canceled_rest c i))
      [ true ↦ trades-total | false ↦ canceled-total i within ]

-- ONE COMMAND

pub found-holds : (P : Order → Type 0) (p : Order → Bool) (xs : List Order) → AllByRecursion P xs
    → MatchOption (find p xs) ⊤ P
found-holds P p [] all = tt
found-holds P p (x ∷ xs) all = elim (p x) as (λ b. MatchOption (if b then Some x else find p xs) ⊤ P)
    [ true ↦ all.0 | false ↦ found-holds P p xs all.1 ]

module _ (sequence : ℕ) (s : State) (orderly : IsOrderly sequence s) (c : Cause) where
  each-within : AllByRecursion IsNotOver s.orders
  each-within = each-map (CanRest sequence s.greatest) IsNotOver (λ x can. let live = can.live in omega (arith, live))
      s.orders orderly.each

  rising : Rising s.orders
  rising = rising-pairs s.orders orderly.pairs

  named-within : (client name : ℕ) → MatchOption (named s client name) ⊤ IsNotOver
  named-within client name = found-holds IsNotOver (is_named client name) s.orders each-within

  new-total : (n : NewOrderSingle) (refusal : Option OrdRejReason)
      → AllByRecursion KeepsTotal (new_answered s c n refusal).outputs
  new-total n (Some reason) = (omega arith, tt)
  new-total n None = (
    omega arith,
    match-total c (entering c n) s.orders rising each-within (omega arith)
        (terms_of n),
  )

  cancel-total : (r : OrderCancelRequest) (refusal : Option CxlRejReason)
      → AllByRecursion KeepsTotal (cancel_answered s c r refusal).outputs
  cancel-total r (Some reason) = (named-within c.gateway r.orig_cl_ord_id, tt)
  cancel-total r None = taken (named s c.gateway r.orig_cl_ord_id) (named-within c.gateway r.orig_cl_ord_id)
    where
      taken : (o : Option Order) → MatchOption o ⊤ IsNotOver
          → AllByRecursion KeepsTotal (order_canceled s c r o).outputs
      taken None h = tt
      taken (Some o) h = (h, tt)

  replace-total : (r : OrderCancelReplaceRequest) (refusal : Option CxlRejReason) →
      (refusal ≡ None → unfit (replace_fits r) (named s c.gateway r.orig_cl_ord_id) ≡ None)
      → AllByRecursion KeepsTotal (replace_answered s c r refusal).outputs
  replace-total r (Some reason) fits = (named-within c.gateway r.orig_cl_ord_id, tt)
  replace-total r None fits = by (named s c.gateway r.orig_cl_ord_id) (fits refl)
    where
      by : (o : Option Order) → unfit (replace_fits r) o ≡ None
          → AllByRecursion KeepsTotal (order_replaced s c r o).outputs
      by None fit = tt
      by (Some o) fit =
          let left : o.cum < r.quantity = something-left r o (fit-one (replace_fits r o) fit) in
          let next : Order = restamped c (amended r o) in
          let rest_of : List Order = others s c.gateway r.orig_cl_ord_id in
          either_way s c r o (λ after. AllByRecursion KeepsTotal after.outputs) (λ keeps. (omega (arith, left), tt)) (
            omega (arith, left),
            match-total c next rest_of
                (rising-filter (λ x. not (is_named c.gateway r.orig_cl_ord_id x)) s.orders rising)
                (each-filter IsNotOver (λ x. not (is_named c.gateway r.orig_cl_ord_id x)) s.orders each-within)
                (omega (arith, left)) Day,
          )

step-total : (symbols : Symbols) (sequence : ℕ) (s : State) (r : Request) → IsOrderly sequence s
    → AllByRecursion KeepsTotal (step symbols s sequence r).outputs
step-total symbols sequence s r orderly = obeyed r.command
  where
    obeyed : (command : Command) → AllByRecursion KeepsTotal (obey symbols s sequence r.gateway command).outputs
    obeyed (New time n) = new-total sequence s orderly (cause r.gateway sequence time) n
        (new_refusal symbols s r.gateway n)
    obeyed (Cancel time q) = cancel-total sequence s orderly (cause r.gateway sequence time) q
        (cancel_refusal s r.gateway q)
    obeyed (Replace time q) = replace-total sequence s orderly (cause r.gateway sequence time) q
        (replace_refusal s r.gateway q)
        (λ none. not-second (nat_le q.cl_ord_id (greatest_of s r.gateway)) DuplicateClOrdId _ none)
    obeyed (Malformed time fault) = (tt, tt)
    obeyed Void = tt

from-total : (symbols : Symbols) (sequence : ℕ) (s : State) (rs : List Request) → AllByRecursion IsFromGateway rs
    → IsOrderly sequence s →
    AllByRecursion KeepsTotal (outputs_from symbols sequence s rs)
from-total symbols sequence s [] all orderly = tt
from-total symbols sequence s (r ∷ rs) all orderly = each-append KeepsTotal (step symbols s sequence r).outputs
    (outputs_from symbols (sequence + 1) (step symbols s sequence r).state rs) (step-total symbols sequence s r orderly)
    (from-total symbols (sequence + 1) (step symbols s sequence r).state rs all.1
    (step-orderly symbols sequence s r all.0 orderly))

-- every order that is told of is filled up to its total at most
pub outputs-total : (symbols : Symbols) (rs : List Request) → AllByRecursion IsFromGateway rs
    → AllByRecursion KeepsTotal (outputs symbols rs)
outputs-total symbols rs all = from-total symbols 0 empty rs all (record { pairs = tt; each = tt; clients = refl })

-- FILL OR KILL

enough : (n sum : ℕ) → nat_le n sum ≡ true → n ≤ sum
enough n sum h = grind (arith, nat_tests)

-- where the orders that it crosses have enough, nothing is left of it
pub filled-whole : (i : Order) (orders : List Order) → Rising orders → can_fill i orders ≡ true
    → leaves (done i orders) ≡ 0
filled-whole i orders rising can =
    let all = enough (leaves i) (sum_by leaves (crossing i orders)) can in
    let sum = done-sum i orders rising in
    omega (arith, all, sum)

-- where they don't, it is canceled and the book is as it was
pub untouched : (i : Order) (orders : List Order) → can_fill i orders ≡ false → matched FillOrKill i orders ≡ orders
untouched i orders cannot = ap (λ b. if b then rest i orders else orders) cannot

pub told-canceled : (c : Cause) (i : Order) (orders : List Order) → can_fill i orders ≡ false
    → match_outputs c FillOrKill i orders ≡ canceled_rest c i
told-canceled c i orders cannot = ap (λ b. if b then trades c i orders else canceled_rest c i) cannot
