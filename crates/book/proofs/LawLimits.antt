-- Each trade is at the price of the resting order, which keeps both orders' limits.
use Rattle.std.proofs.Common.{◌≡◌, inl, inr, ℕ, suc, true, false, nat_lt, List, [], ◌∷◌, map, refl, arith, None}
use Rattle.std.specs.Prelude.{filter, if◌then◌else◌}
use Rattle.std.specs.List.{flat_map, AllByRecursion, Contains}
use Rattle.std.specs.Str.{bytes_eq}
use Rattle.std.proofs.lemmas.Bool.{and_parts}
use Rattle.std.proofs.lemmas.Bool.Decides.{nat_tests}
use Rattle.venue_model.specs.declared.orders.Side.{Side}
use Rattle.venue_model.specs.declared.orders.Side.TheVariants.{Buy, Sell}
use Rattle.venue_model.specs.declared.orders.Order.{Order}
use Rattle.venue_model.specs.declared.commands.TimeInForce.{TimeInForce}
use Rattle.venue_model.specs.declared.commands.TimeInForce.TheVariants.{Day, ImmediateOrCancel, FillOrKill}
use Rattle.venue_model.specs.declared.outputs.Cause.{Cause}
use Rattle.venue_model.specs.declared.outputs.ExecType.TheVariants as exec_type
use Rattle.venue_model.specs.declared.outputs.Output.{Output}
use Rattle.venue_model.specs.Orders.{leaves, is_live, crosses, meets}
use Rattle.venue_model.specs.Match.{crossing, fill, done, exec, filled_orders, trade, trades, can_fill, canceled_rest}
use Rattle.venue_model.specs.Match.{match_outputs}
use Rattle.venue_model.specs.Requests.{Symbols}
use Rattle.venue_model.specs.Step.{Request, outputs}
use Rattle.book.specs.Laws.{IsWithin, KeepsLimit, KeepsPrice}
use Rattle.book.proofs.Lists.{each-append, each-map, each-of, each-filter, each-passes}
use Rattle.book.proofs.LawSteps.{tells-none, outputs-good}
use Rattle.book.proofs.Priority.{each-by_priority}

module _ {X Y : Type 0} where
  pub each-flat_map : (P : Y → Type 0) (f : X → List Y) (xs : List X) → AllByRecursion (λ x. AllByRecursion P (f x)) xs
      → AllByRecursion P (flat_map f xs)
  each-flat_map P f [] all = tt
  each-flat_map P f (x ∷ xs) all = each-append P (f x) (flat_map f xs) all.0 (each-flat_map P f xs all.1)

module _ {X : Type 0} where
  -- each element of a list is one
  pub each-there : (xs : List X) → AllByRecursion (Contains xs) xs
  each-there [] = tt
  each-there (x ∷ xs) = (
    (0, omega arith, refl),
    each-map (Contains xs) (Contains (x ∷ xs))
        (λ y there. (suc there.0, (let h = there.1 in omega (arith, h)), there.2)) xs (each-there xs),
  )

-- an order's own price keeps its limit
own-price : (side : Side) (p : ℕ) → IsWithin side p p
own-price Buy p = omega arith
own-price Sell p = omega arith

-- prices that meet keep each other
met-price : (side : Side) (p : ℕ) (other : Side) (q : ℕ) → meets side p other q ≡ true → IsWithin side p q
met-price Buy p Sell q h = grind (arith, nat_tests)
met-price Sell p Buy q h = grind (arith, nat_tests)
met-price Buy p Buy q h = cc
met-price Sell p Sell q h = cc

crossed-price : (i o : Order) → crosses i o ≡ true → IsWithin i.side i.price o.price
crossed-price i o h = met-price i.side i.price o.side o.price
    (and_parts (bytes_eq i.symbol o.symbol) (meets i.side i.price o.side o.price) h).1

module _ (c : Cause) (i : Order) (orders : List Order) where
  -- what holds of each crossing order's reports holds of the reports of the match
  pub each-trade : (P : Output → Type 0) → AllByRecursion
      (λ o. crosses i o ≡ true → AllByRecursion P (trade c i (crossing i orders) o)) orders →
      AllByRecursion P (trades c i orders)
  each-trade P each =
      let queue : List Order = crossing i orders in
      let Tells : Order → Type 0 = λ o. AllByRecursion P (trade c i queue o) in
      each-flat_map P (trade c i queue) (filled_orders (leaves i) queue)
      (each-by_priority Tells (filter (λ o. nat_lt 0 (fill (leaves i) queue o)) queue)
      (each-filter Tells (λ o. nat_lt 0 (fill (leaves i) queue o)) queue (each-passes Tells (crosses i) orders each)))

  pub trades-limit : AllByRecursion KeepsLimit (trades c i orders)
  trades-limit = each-trade KeepsLimit
      (each-of (λ o. crosses i o ≡ true → AllByRecursion KeepsLimit (trade c i (crossing i orders) o))
      (λ o h. (own-price o.side o.price, (crossed-price i o h, tt))) orders)

  pub trades-price : AllByRecursion (KeepsPrice i orders) (trades c i orders)
  trades-price = each-trade (KeepsPrice i orders) (each-map (Contains orders)
      (λ o. crosses i o ≡ true → AllByRecursion (KeepsPrice i orders) (trade c i (crossing i orders) o))
      (λ o there h. (
        record { resting = o; is_there = there; is_crossed = h; price_is = refl; told_of = inl refl },
        (record { resting = o; is_there = there; is_crossed = h; price_is = refl; told_of = inr refl }, tt),
      ))
      orders (each-there orders))

canceled-limit : (c : Cause) (o : Order) → AllByRecursion KeepsLimit (canceled_rest c o)
canceled-limit c o = elim (is_live o) as (λ b. AllByRecursion KeepsLimit
    (map (exec c (exec_type.Canceled None)) (if b then o ∷ [] else [])))
    [ true ↦ (tt, tt) | false ↦ tt ]

match-limit : (c : Cause) (terms : TimeInForce) (i : Order) (orders : List Order)
    → AllByRecursion KeepsLimit (match_outputs c terms i orders)
match-limit c Day i orders = trades-limit c i orders
match-limit c ImmediateOrCancel i orders = each-append KeepsLimit (trades c i orders) (canceled_rest c (done i orders))
    (trades-limit c i orders) (canceled-limit c (done i orders))
match-limit c FillOrKill i orders =
    elim (can_fill i orders) as (λ b. AllByRecursion KeepsLimit (if b then trades c i orders else canceled_rest c i))
    [ true ↦ trades-limit c i orders | false ↦ canceled-limit c i ]

-- every trade that is told keeps the limit of the order that it is told of
pub outputs-limit : (symbols : Symbols) (rs : List Request) → AllByRecursion KeepsLimit (outputs symbols rs)
outputs-limit symbols rs = outputs-good (AllByRecursion KeepsLimit) tt
    (λ o os none all. (tells-none (λ order price. IsWithin order.side order.price price) o.report none, all))
    match-limit (each-append KeepsLimit) symbols rs
