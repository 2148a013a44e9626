-- What holds of the outputs of each match, and of outputs that tell no trade, holds of the outputs of any history.
use Rattle.std.proofs.Common.{◌≡◌, ℕ, ◌+◌, List, [], ◌∷◌, ◌++◌, refl, Option, Some, None}
use Rattle.venue_model.specs.declared.orders.Side.{Side}
use Rattle.venue_model.specs.declared.orders.Order.{Order}
use Rattle.venue_model.specs.declared.commands.TimeInForce.{TimeInForce}
use Rattle.venue_model.specs.declared.commands.TimeInForce.TheVariants.{Day}
use Rattle.venue_model.specs.declared.commands.NewOrderSingle.{NewOrderSingle}
use Rattle.venue_model.specs.declared.commands.OrderCancelRequest.{OrderCancelRequest}
use Rattle.venue_model.specs.declared.commands.OrderCancelReplaceRequest.{OrderCancelReplaceRequest}
use Rattle.venue_model.specs.declared.commands.Command.{Command}
use Rattle.venue_model.specs.declared.commands.Command.TheVariants.{New, Cancel, Replace, Malformed, Void}
use Rattle.venue_model.specs.declared.outputs.Cause.{Cause}
use Rattle.venue_model.specs.declared.outputs.OrdRejReason.{OrdRejReason}
use Rattle.venue_model.specs.declared.outputs.CxlRejReason.{CxlRejReason}
use Rattle.venue_model.specs.declared.outputs.ExecType.{ExecType}
use Rattle.venue_model.specs.declared.outputs.ExecType.TheVariants as exec_type
use Rattle.venue_model.specs.declared.outputs.Report.{Report}
use Rattle.venue_model.specs.declared.outputs.Report.TheVariants.{Exec, CancelReject, SessionReject}
use Rattle.venue_model.specs.declared.outputs.Output.{Output}
use Rattle.venue_model.specs.Match.{output, exec, match_outputs}
use Rattle.venue_model.specs.Requests.{Symbols, State, new_refusal, new_answered, entering, named, others, terms_of}
use Rattle.venue_model.specs.Requests.{cancel_refusal, cancel_reject, cancel_answered, canceled, order_canceled}
use Rattle.venue_model.specs.Requests.{replace_refusal, replace_reject, replace_answered, restamped, amended}
use Rattle.venue_model.specs.Requests.{order_replaced}
use Rattle.venue_model.specs.Step.{Request, cause, obey, step, empty, outputs_from, outputs}
use Rattle.venue_model.specs.ReplacedLaws.{either_way}
use Rattle.book.specs.Laws.{TradedAt, TellsTradeAt, fill_counted, report_counted}

-- it tells no trade
abbrev pub TellsNoTrade : Output → Type 0
TellsNoTrade o = TellsTradeAt (λ order price. ⊥) o.report

no-trade : (P : ℕ → Type 0) (kind : ExecType) → TradedAt (λ price. ⊥) kind → TradedAt P kind
no-trade P exec_type.New none = tt
no-trade P (exec_type.Trade last_qty last_px) none = absurd none
no-trade P (exec_type.Canceled orig_cl_ord_id) none = tt
no-trade P (exec_type.Replaced orig_cl_ord_id) none = tt
no-trade P (exec_type.Rejected reason) none = tt

-- so each trade that it tells is as one likes
pub tells-none : (P : Order → ℕ → Type 0) (report : Report) → TellsTradeAt (λ order price. ⊥) report
    → TellsTradeAt P report
tells-none P (Exec report) none = no-trade (P report.order) report.exec_type none
tells-none P (CancelReject reject) none = tt
tells-none P (SessionReject reject) none = tt

-- and it counts nothing
no-fill : (count : ℕ → ℕ → ℕ) (side : Side) (symbol : List ℕ) (o : Order) (kind : ExecType) → TradedAt (λ price. ⊥) kind
    → fill_counted count side symbol o kind ≡ 0
no-fill count side symbol o exec_type.New none = refl
no-fill count side symbol o (exec_type.Trade last_qty last_px) none = absurd none
no-fill count side symbol o (exec_type.Canceled orig_cl_ord_id) none = refl
no-fill count side symbol o (exec_type.Replaced orig_cl_ord_id) none = refl
no-fill count side symbol o (exec_type.Rejected reason) none = refl

pub counts-none : (count : ℕ → ℕ → ℕ) (side : Side) (symbol : List ℕ) (report : Report)
    → TellsTradeAt (λ order price. ⊥) report → report_counted count side symbol report ≡ 0
counts-none count side symbol (Exec report) none = no-fill count side symbol report.order report.exec_type none
counts-none count side symbol (CancelReject reject) none = refl
counts-none count side symbol (SessionReject reject) none = refl

module _ (Good : List Output → Type 0) (nothing : Good [])
    (plain : (o : Output) (os : List Output) → TellsNoTrade o → Good os → Good (o ∷ os))
    (fills : (c : Cause) (t : TimeInForce) (i : Order) (orders : List Order) → Good (match_outputs c t i orders)) where
  module _ (s : State) (c : Cause) where
    new-good : (n : NewOrderSingle) (refusal : Option OrdRejReason) → Good (new_answered s c n refusal).outputs
    new-good n (Some reason) = plain (exec c (exec_type.Rejected reason) (entering c n)) [] tt nothing
    new-good n None = plain (exec c exec_type.New (entering c n))
        (match_outputs c (terms_of n) (entering c n) s.orders) tt
        (fills c (terms_of n) (entering c n) s.orders)

    cancel-good : (r : OrderCancelRequest) (refusal : Option CxlRejReason)
        → Good (cancel_answered s c r refusal).outputs
    cancel-good r (Some reason) = plain (cancel_reject s c r reason) [] tt nothing
    cancel-good r None = taken (named s c.gateway r.orig_cl_ord_id)
      where
        taken : (o : Option Order) → Good (order_canceled s c r o).outputs
        taken None = nothing
        taken (Some o) = plain (exec c (exec_type.Canceled (Some r.orig_cl_ord_id)) (canceled r o)) [] tt nothing

    replace-good : (r : OrderCancelReplaceRequest) (refusal : Option CxlRejReason)
        → Good (replace_answered s c r refusal).outputs
    replace-good r (Some reason) = plain (replace_reject s c r reason) [] tt nothing
    replace-good r None = by (named s c.gateway r.orig_cl_ord_id)
      where
        by : (o : Option Order) → Good (order_replaced s c r o).outputs
        by None = nothing
        by (Some o) =
            let next : Order = restamped c (amended r o) in
            let rest_of : List Order = others s c.gateway r.orig_cl_ord_id in
            either_way s c r o (λ after. Good after.outputs)
            (λ keeps. plain (exec c (exec_type.Replaced r.orig_cl_ord_id) (amended r o)) [] tt nothing)
            (plain (exec c (exec_type.Replaced r.orig_cl_ord_id) next) (match_outputs c Day next rest_of) tt
            (fills c Day next rest_of))

  step-good : (symbols : Symbols) (s : State) (sequence : ℕ) (r : Request) → Good (step symbols s sequence r).outputs
  step-good symbols s sequence r = obeyed r.command
    where
      obeyed : (command : Command) → Good (obey symbols s sequence r.gateway command).outputs
      obeyed (New time n) = new-good s (cause r.gateway sequence time) n (new_refusal symbols s r.gateway n)
      obeyed (Cancel time q) = cancel-good s (cause r.gateway sequence time) q (cancel_refusal s r.gateway q)
      obeyed (Replace time q) = replace-good s (cause r.gateway sequence time) q (replace_refusal s r.gateway q)
      obeyed (Malformed time fault) = plain (output (cause r.gateway sequence time) r.gateway (SessionReject fault)) []
          tt nothing
      obeyed Void = nothing

  module _ (both : (xs ys : List Output) → Good xs → Good ys → Good (xs ++ ys)) (symbols : Symbols) where
    from-good : (sequence : ℕ) (s : State) (rs : List Request) → Good (outputs_from symbols sequence s rs)
    from-good sequence s [] = nothing
    from-good sequence s (r ∷ rs) = both (step symbols s sequence r).outputs
        (outputs_from symbols (sequence + 1) (step symbols s sequence r).state rs)
        (step-good symbols s sequence r) (from-good (sequence + 1) (step symbols s sequence r).state rs)

    pub outputs-good : (rs : List Request) → Good (outputs symbols rs)
    outputs-good rs = from-good 0 empty rs
