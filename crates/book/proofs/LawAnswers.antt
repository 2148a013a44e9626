-- Each command is answered, and first to the gateway that it came through.
use Rattle.std.proofs.Common.{◌≡◌, ◌≢◌, ℕ, Bool, true, false, nat_eq, List, [], ◌∷◌, Option, Some, None, refl, sym, ap, ◌∙◌}
use Rattle.std.specs.Prelude.{find, if◌then◌else◌}
use Rattle.std.proofs.lemmas.Bool.{eqb-true}
use Rattle.venue_model.specs.declared.commands.Command.{Command}
use Rattle.venue_model.specs.declared.commands.Command.TheVariants.{New, Cancel, Replace, Malformed, Void}
use Rattle.venue_model.specs.declared.commands.NewOrderSingle.{NewOrderSingle}
use Rattle.venue_model.specs.declared.commands.OrderCancelRequest.{OrderCancelRequest}
use Rattle.venue_model.specs.declared.commands.OrderCancelReplaceRequest.{OrderCancelReplaceRequest}
use Rattle.venue_model.specs.declared.orders.Order.{Order}
use Rattle.venue_model.specs.declared.outputs.Cause.{Cause}
use Rattle.venue_model.specs.declared.outputs.CxlRejReason.{CxlRejReason}
use Rattle.venue_model.specs.declared.outputs.OrdRejReason.{OrdRejReason}
use Rattle.venue_model.specs.Requests.{Symbols, State, is_named, named, unfit, cancel_fits, replace_fits, cancel_refusal}
use Rattle.venue_model.specs.Requests.{replace_refusal, new_refusal, new_answered, cancel_answered, replace_answered}
use Rattle.venue_model.specs.Requests.{order_canceled, order_replaced, keeps_place}
use Rattle.venue_model.specs.Step.{obey, cause}
use Rattle.book.specs.Laws.{AnswersFirst}
use Rattle.book.proofs.AmendLemmas.{and_first}

-- the order of this name is the client's
its-own-by : (client name : ℕ) (x : Order) (xs : List Order) (o : Order) (b : Bool) → is_named client name x ≡ b
    → (find (is_named client name) xs ≡ Some o → o.client ≡ client) → find (is_named client name) (x ∷ xs) ≡ Some o
    → o.client ≡ client
its-own-by client name x xs o true e later is =
    let same : Some x ≡ Some o = sym (ap (λ (t : Bool). if t then Some x else find (is_named client name) xs) e) ∙ is in
    let it : x ≡ o = cc in
    sym (ap (λ (y : Order). y.client) it) ∙ eqb-true x.client client (and_first (nat_eq x.client client) _ e)
its-own-by client name x xs o false e later is =
    later (sym (ap (λ (t : Bool). if t then Some x else find (is_named client name) xs) e) ∙ is)

its-own : (client name : ℕ) (os : List Order) (o : Order) → find (is_named client name) os ≡ Some o → o.client ≡ client
its-own client name [] o is = cc
its-own client name (x ∷ xs) o is =
    its-own-by client name x xs o (is_named client name x) refl (its-own client name xs o) is

-- a request that names no order is refused
unnamed : (b : Bool) (reason : CxlRejReason) (fits : Order → Bool) (n : Option Order) → n ≡ None
    → (if b then Some reason else unfit fits n) ≢ None
unnamed true reason fits n none is = cc
unnamed false reason fits None none is = cc
unnamed false reason fits (Some o) none is = cc

module _ (s : State) (c : Cause) where
  new-first : (n : NewOrderSingle) (refusal : Option OrdRejReason) → AnswersFirst c.gateway (new_answered s c n refusal).outputs
  new-first n (Some reason) = (_, [], refl, refl)
  new-first n None = (_, _, refl, refl)

  canceled-first : (r : OrderCancelRequest) (n : Option Order) → named s c.gateway r.orig_cl_ord_id ≡ n
      → cancel_refusal s c.gateway r ≡ None → AnswersFirst c.gateway (order_canceled s c r n).outputs
  canceled-first r None is fits = absurd (unnamed _ _ (cancel_fits r) (named s c.gateway r.orig_cl_ord_id) is fits)
  canceled-first r (Some o) is fits = (_, [], refl, its-own c.gateway r.orig_cl_ord_id s.orders o is)

  cancel-first : (r : OrderCancelRequest) (refusal : Option CxlRejReason) → cancel_refusal s c.gateway r ≡ refusal
      → AnswersFirst c.gateway (cancel_answered s c r refusal).outputs
  cancel-first r (Some reason) is = (_, [], refl, refl)
  cancel-first r None is = canceled-first r (named s c.gateway r.orig_cl_ord_id) refl is

  kept-first : (r : OrderCancelReplaceRequest) (o : Order) (keeps : Bool) → keeps_place r o ≡ keeps
      → find (is_named c.gateway r.orig_cl_ord_id) s.orders ≡ Some o
      → AnswersFirst c.gateway (order_replaced s c r (Some o)).outputs
  kept-first r o true keeps is = rw keeps (_, [], refl, its-own c.gateway r.orig_cl_ord_id s.orders o is)
  kept-first r o false keeps is = rw keeps (_, _, refl, its-own c.gateway r.orig_cl_ord_id s.orders o is)

  replaced-first : (r : OrderCancelReplaceRequest) (n : Option Order) → named s c.gateway r.orig_cl_ord_id ≡ n
      → replace_refusal s c.gateway r ≡ None → AnswersFirst c.gateway (order_replaced s c r n).outputs
  replaced-first r None is fits = absurd (unnamed _ _ (replace_fits r) (named s c.gateway r.orig_cl_ord_id) is fits)
  replaced-first r (Some o) is fits = kept-first r o (keeps_place r o) refl is

  replace-first : (r : OrderCancelReplaceRequest) (refusal : Option CxlRejReason) → replace_refusal s c.gateway r ≡ refusal
      → AnswersFirst c.gateway (replace_answered s c r refusal).outputs
  replace-first r (Some reason) is = (_, [], refl, refl)
  replace-first r None is = replaced-first r (named s c.gateway r.orig_cl_ord_id) refl is

pub answers-first : (symbols : Symbols) (s : State) (sequence gateway : ℕ) (command : Command) → command ≢ Void
    → AnswersFirst gateway (obey symbols s sequence gateway command).outputs
answers-first symbols s sequence gateway (New time order) asks =
    new-first s (cause gateway sequence time) order (new_refusal symbols s gateway order)
answers-first symbols s sequence gateway (Cancel time request) asks =
    cancel-first s (cause gateway sequence time) request (cancel_refusal s gateway request) refl
answers-first symbols s sequence gateway (Replace time request) asks =
    replace-first s (cause gateway sequence time) request (replace_refusal s gateway request) refl
answers-first symbols s sequence gateway (Malformed time fault) asks = (_, [], refl, refl)
answers-first symbols s sequence gateway Void asks = absurd (asks refl)
