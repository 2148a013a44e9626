-- The definitions of requests, where it is known why they are refused, or that they aren't.
use Rattle.std.proofs.Common.{◌≡◌, ℕ, ◌<◌, ◌≤◌, nat_le, Bool, true, false, refl, sym, ◌∙◌, arith, Option, Some, None}
use Rattle.std.proofs.lemmas.Bool.Decides.{nat_tests}
use Rattle.std.specs.Prelude.{if◌then◌else◌}
use Rattle.venue_model.specs.declared.orders.Order.{Order}
use Rattle.venue_model.specs.declared.outputs.CxlRejReason.{CxlRejReason}
use Rattle.venue_model.specs.declared.outputs.CxlRejReason.TheVariants.{DuplicateClOrdId, UnknownOrder, BrokerOption}
use Rattle.std.proofs.Common.{◌&&◌, not, length}
use Rattle.std.specs.List.{list_any}
use Rattle.std.specs.Str.{bytes_eq}
use Rattle.venue_model.specs.declared.commands.NewOrderSingle.{NewOrderSingle}
use Rattle.venue_model.specs.declared.commands.OrdType.{OrdType}
use Rattle.venue_model.specs.declared.commands.OrdType.TheVariants.{Market, Limit}
use Rattle.venue_model.specs.declared.commands.TimeInForce.{TimeInForce}
use Rattle.venue_model.specs.declared.commands.TimeInForce.TheVariants.{Day, ImmediateOrCancel, FillOrKill}
use Rattle.venue_model.specs.declared.orders.Side.{Side}
use Rattle.venue_model.specs.declared.orders.Side.TheVariants.{Buy, Sell}
use Rattle.venue_model.specs.Orders.{is_market, price_of}
use Rattle.venue_model.specs.Step.{IsPriced}
use Rattle.venue_model.specs.declared.outputs.OrdRejReason.TheVariants.{BookFull, UnknownSymbol, DuplicateOrder}
use Rattle.venue_model.specs.Requests.{Symbols, new_refusal, is_day, most_resting, at_once, terms_of}
use Rattle.venue_model.specs.Requests.{State, greatest_of, unfit}

above : (n m : ℕ) → nat_le n m ≡ false → m < n
above n m h = grind (arith, nat_tests)

-- a request that isn't refused names an order that it fits, and has a later name
pub record Goes (name greatest : ℕ) (fits : Order → Bool) (found : Option Order) : Type 0 where
  pub later : greatest < name
  pub order : Order
  pub is : found ≡ Some order
  pub fit : fits order ≡ true

fit-of : (name greatest : ℕ) (fits : Order → Bool) (found : Option Order) → greatest < name → unfit fits found ≡ None
    → Goes name greatest fits found
fit-of name greatest fits None later none = absurd (let e : Some UnknownOrder ≡ None = none in cc)
fit-of name greatest fits (Some o) later none = record {
  later = later;
  order = o;
  is = refl;
  fit = elim (fits o) as (λ b. (if b then None else Some BrokerOption) ≡ None → b ≡ true)
      [ true ↦ λ e. refl | false ↦ λ e. cc ] none;
}

pub goes : (name greatest : ℕ) (fits : Order → Bool) (found : Option Order) (reason : Option CxlRejReason) →
    reason ≡ (if nat_le name greatest then Some DuplicateClOrdId else unfit fits found) → reason ≡ None
    → Goes name greatest fits found
goes name greatest fits found reason why none =
    elim (nat_le name greatest) as (λ b. nat_le name greatest ≡ b
    → (if b then Some DuplicateClOrdId else unfit fits found) ≡ None → Goes name greatest fits found)
    [ true ↦ λ h e. absurd cc | false ↦ λ h e. fit-of name greatest fits found (above name greatest h) e ] refl
    (sym why ∙ none)

-- a new order that isn't refused is in a symbol of the venue
pub known-new : (symbols : Symbols) (s : State) (client : ℕ) (n : NewOrderSingle)
    → new_refusal symbols s client n ≡ None → list_any (bytes_eq n.symbol) symbols ≡ true
known-new symbols s client n none = elim (nat_le n.cl_ord_id (greatest_of s client)) as
    (λ b. (if b then Some DuplicateOrder else (if not (list_any (bytes_eq n.symbol) symbols) then Some UnknownSymbol
    else (if is_day (terms_of n) && nat_le most_resting (length s.orders) then Some BookFull else None))) ≡ None
    → list_any (bytes_eq n.symbol) symbols ≡ true) [
      | true ↦ λ e. cc
      | false ↦ elim (list_any (bytes_eq n.symbol) symbols) as
          (λ b. (if not b then Some UnknownSymbol else
          (if is_day (terms_of n) && nat_le most_resting (length s.orders) then Some BookFull else None))
          ≡ None → b ≡ true)
          [ true ↦ λ e. refl | false ↦ λ e. cc ]
    ] none

-- what rests of a new order has a price
limit-by : (ord_type : OrdType) (terms : TimeInForce)
    → is_day (if is_market ord_type then at_once terms else terms) ≡ true
    → is_market ord_type ≡ false
limit-by (Limit price) terms day = refl
limit-by Market Day day = cc
limit-by Market ImmediateOrCancel day = cc
limit-by Market FillOrKill day = cc

pub limit-rests : (n : NewOrderSingle) → is_day (terms_of n) ≡ true → is_market n.ord_type ≡ false
limit-rests n day = limit-by n.ord_type n.time_in_force day

-- the price by which it crosses others is in range
pub price-most : (side : Side) (ord_type : OrdType) → IsPriced ord_type → price_of side ord_type ≤ 1000000
price-most side (Limit price) priced = priced.1
price-most Buy Market priced = omega arith
price-most Sell Market priced = omega arith
