-- In the outputs of any history, what was bought was sold.
use Rattle.std.proofs.Common.{◌≡◌, ℕ, ◌+◌, ◌*◌, Bool, true, false, ◌&&◌, nat_lt, List, [], ◌∷◌, ◌++◌, map, refl, ap}
use Rattle.std.proofs.Common.{sym, ◌∙◌, arith, None}
use Rattle.std.specs.Prelude.{sum_by, filter, if◌then◌else◌}
use Rattle.std.specs.List.{AllByRecursion, flat_map}
use Rattle.std.specs.Str.{bytes_eq}
use Rattle.std.proofs.lemmas.List.Sums.{sum_by-append, sum_by-cons}
use Rattle.std.proofs.lemmas.Bool.{and_parts}
use Rattle.std.proofs.lemmas.Slice.Eq.{bytes_eq-Decides}
use Rattle.venue_model.specs.declared.orders.Side.{Side}
use Rattle.venue_model.specs.declared.orders.Side.TheVariants.{Buy, Sell}
use Rattle.venue_model.specs.declared.orders.Order.{Order}
use Rattle.venue_model.specs.declared.commands.TimeInForce.{TimeInForce}
use Rattle.venue_model.specs.declared.commands.TimeInForce.TheVariants.{Day, ImmediateOrCancel, FillOrKill}
use Rattle.venue_model.specs.declared.outputs.Cause.{Cause}
use Rattle.venue_model.specs.declared.outputs.ExecType.TheVariants as exec_type
use Rattle.venue_model.specs.declared.outputs.Output.{Output}
use Rattle.venue_model.specs.Orders.{leaves, is_live, same_side, crosses, meets}
use Rattle.venue_model.specs.Match.{crossing, fill, done, exec, filled_orders, trade, trades, can_fill, canceled_rest}
use Rattle.venue_model.specs.Match.{match_outputs}
use Rattle.venue_model.specs.Requests.{Symbols}
use Rattle.venue_model.specs.Step.{Request, outputs}
use Rattle.book.specs.Laws.{report_counted, quantity_traded, money_traded}
use Rattle.book.proofs.Lists.{each-of, each-filter, each-passes}
use Rattle.book.proofs.LawSteps.{counts-none, outputs-good}
use Rattle.book.proofs.Priority.{each-by_priority}

module _ (count : ℕ → ℕ → ℕ) (symbol : List ℕ) where
  abbrev bought : Output → ℕ
  bought o = report_counted count Buy symbol o.report

  abbrev sold : Output → ℕ
  sold o = report_counted count Sell symbol o.report

  -- as much was bought as sold
  abbrev Even : List Output → Type 0
  Even os = sum_by bought os ≡ sum_by sold os

  even-append : (xs ys : List Output) → Even xs → Even ys → Even (xs ++ ys)
  even-append xs ys h k = sum_by-append bought xs ys ∙ ap (λ n. n + sum_by bought ys) h ∙ ap (λ n. sum_by sold xs + n) k
      ∙ sym (sum_by-append sold xs ys)

  even-cons : (x : Output) (ys : List Output) → bought x ≡ sold x → Even ys → Even (x ∷ ys)
  even-cons x ys h k = sum_by-cons bought x ys ∙ ap (λ n. n + sum_by bought ys) h ∙ ap (λ n. sold x + n) k
      ∙ sym (sum_by-cons sold x ys)

  even-flat_map : (f : Order → List Output) (xs : List Order) → AllByRecursion (λ x. Even (f x)) xs
      → Even (flat_map f xs)
  even-flat_map f [] all = refl
  even-flat_map f (x ∷ xs) all = even-append (f x) (flat_map f xs) all.0 (even-flat_map f xs all.1)

  -- the two sides of a fill
  opposite : (s : Side) (p : ℕ) (t : Side) (q n : ℕ) (b : Bool) → meets s p t q ≡ true →
      (if same_side t Buy && b then n else 0) + (if same_side s Buy && b then n else 0)
      ≡ (if same_side t Sell && b then n else 0) + (if same_side s Sell && b then n else 0)
  opposite Buy p Sell q n b h = omega arith
  opposite Sell p Buy q n b h = omega arith
  opposite Buy p Buy q n b h = cc
  opposite Sell p Sell q n b h = cc

  pair : (i o : Order) (n p : ℕ) → crosses i o ≡ true →
      (if same_side o.side Buy && bytes_eq o.symbol symbol then count n p else 0)
      + (if same_side i.side Buy && bytes_eq i.symbol symbol then count n p else 0)
      ≡ (if same_side o.side Sell && bytes_eq o.symbol symbol then count n p else 0)
      + (if same_side i.side Sell && bytes_eq i.symbol symbol then count n p else 0)
  pair i o n p crossed =
      let both = and_parts (bytes_eq i.symbol o.symbol) (meets i.side i.price o.side o.price) crossed in
      let same : i.symbol ≡ o.symbol = (bytes_eq-Decides i.symbol o.symbol).0 both.0 in
      rw same (opposite i.side i.price o.side o.price (count n p) (bytes_eq o.symbol symbol) both.1)

  trade-even : (c : Cause) (i : Order) (queue : List Order) (o : Order) → crosses i o ≡ true → Even (trade c i queue o)
  trade-even c i queue o crossed =
      let n : ℕ = fill (leaves i) queue o in
      let both = pair i o n o.price crossed in
      omega (arith, both)

  trades-even : (c : Cause) (i : Order) (orders : List Order) → Even (trades c i orders)
  trades-even c i orders =
      let queue : List Order = crossing i orders in
      let gets : Order → Bool = λ o. nat_lt 0 (fill (leaves i) queue o) in
      even-flat_map (trade c i queue) (filled_orders (leaves i) queue)
      (each-by_priority (λ o. Even (trade c i queue o)) (filter gets queue)
      (each-filter (λ o. Even (trade c i queue o)) gets queue
      (each-passes (λ o. Even (trade c i queue o)) (crosses i) orders
      (each-of (λ o. crosses i o ≡ true → Even (trade c i queue o)) (trade-even c i queue) orders))))

  canceled-even : (c : Cause) (o : Order) → Even (canceled_rest c o)
  canceled-even c o = elim (is_live o) as (λ b. Even
      (map (exec c (exec_type.Canceled None)) (if b then o ∷ [] else []))) [ true ↦ refl | false ↦ refl ]

  match-even : (c : Cause) (t : TimeInForce) (i : Order) (orders : List Order) → Even (match_outputs c t i orders)
  match-even c Day i orders = trades-even c i orders
  match-even c ImmediateOrCancel i orders = even-append (trades c i orders) (canceled_rest c (done i orders))
      (trades-even c i orders) (canceled-even c (done i orders))
  match-even c FillOrKill i orders =
      elim (can_fill i orders) as (λ b. Even (if b then trades c i orders else canceled_rest c i))
      [ true ↦ trades-even c i orders | false ↦ canceled-even c i ]

  pub outputs-even : (symbols : Symbols) (rs : List Request) → Even (outputs symbols rs)
  outputs-even symbols rs = outputs-good Even refl
      (λ o os none even. even-cons o os
      (counts-none count Buy symbol o.report none ∙ sym (counts-none count Sell symbol o.report none)) even)
      match-even even-append symbols rs

-- of each symbol as much was bought as sold, and for as much
pub quantity-even : (symbols : Symbols) (rs : List Request) (symbol : List ℕ)
    → quantity_traded Buy symbol (outputs symbols rs) ≡ quantity_traded Sell symbol (outputs symbols rs)
quantity-even symbols rs symbol = outputs-even (λ n p. n) symbol symbols rs

pub money-even : (symbols : Symbols) (rs : List Request) (symbol : List ℕ)
    → money_traded Buy symbol (outputs symbols rs) ≡ money_traded Sell symbol (outputs symbols rs)
money-even symbols rs symbol = outputs-even (λ n p. n * p) symbol symbols rs
