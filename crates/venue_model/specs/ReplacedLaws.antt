-- A replace, by its two ways: the order keeps its place, or it leaves the book and comes in again.
use Rattle.std.proofs.Common.{◌≡◌, true, false, [], ◌∷◌, refl, Some}
use Rattle.std.specs.Prelude.{if◌then◌else◌}
use Rattle.venue_model.specs.declared.orders.Order.{Order}
use Rattle.venue_model.specs.declared.commands.TimeInForce.TheVariants.{Day}
use Rattle.venue_model.specs.declared.commands.OrderCancelReplaceRequest.{OrderCancelReplaceRequest}
use Rattle.venue_model.specs.declared.outputs.Cause.{Cause}
use Rattle.venue_model.specs.declared.outputs.ExecType.TheVariants.{Replaced}
use Rattle.venue_model.specs.Match.{exec, matched, match_outputs}
use Rattle.venue_model.specs.Requests.{State, Stepped, accepted, others, keeps_place, amended, amended_in_place, restamped, order_replaced}

module _ (s : State) (c : Cause) (r : OrderCancelReplaceRequest) (o : Order) where
  abbrev pub in_place : Stepped
  in_place = record {
    state = accepted s c.gateway r.cl_ord_id (amended_in_place s c.gateway r);
    outputs = exec c (Replaced r.orig_cl_ord_id) (amended r o) ∷ [];
  }

  abbrev pub stepped_again : Stepped
  stepped_again = record {
    state = accepted s c.gateway r.cl_ord_id (matched Day (restamped c (amended r o)) (others s c.gateway r.orig_cl_ord_id));
    outputs = exec c (Replaced r.orig_cl_ord_id) (restamped c (amended r o))
        ∷ match_outputs c Day (restamped c (amended r o)) (others s c.gateway r.orig_cl_ord_id);
  }

  -- what holds both ways
  pub either_way : (P : Stepped → Type 0) → (keeps_place r o ≡ true → P in_place) → P stepped_again → P (order_replaced s c r (Some o))
  either_way P stays comes = elim (keeps_place r o) as (λ t. keeps_place r o ≡ t → P (if t then in_place else stepped_again))
      [ true ↦ λ keeps. stays keeps | false ↦ λ moves. comes ] refl
