-- A match that is over: nothing is left of the incoming order, or it crosses none.
use Rattle.std.proofs.Common.{◌≡◌, inl, inr, ℕ, ◌+◌, ◌*◌, ◌<◌, true, false, nat_lt, List, [], ◌∷◌, ◌++◌, length, refl}
use Rattle.std.proofs.Common.{ap, sym, ◌∙◌, arith, append-nil}
use Rattle.std.specs.Prelude.{sum_by, filter, if◌then◌else◌, Vec}
use Rattle.std.specs.List.{AllByRecursion, flat_map}
use Rattle.venue_model.specs.declared.orders.Order.{Order}
use Rattle.venue_model.specs.declared.outputs.Cause.{Cause}
use Rattle.venue_model.specs.declared.outputs.Output.{Output}
use Rattle.venue_model.specs.Orders.{leaves, is_live, crosses}
use Rattle.venue_model.specs.Match.{crossing, fill, after_fill, after_fills, settled, done, rest, by_priority}
use Rattle.venue_model.specs.Match.{filled_orders, trade, trades, live_alone, matched, match_outputs}
use Rattle.venue_model.specs.declared.commands.TimeInForce.TheVariants.{Day}
use Rattle.book.specs.Standing.{Rests}
use Rattle.book.specs.Commands.{AreLeft, AddsOutputs, MatchReads}
use Rattle.book.specs.Passes.{Matching, Passed, Over, NoneCrossed}
use Rattle.book.specs.Reads.{fills}
use Rattle.book.proofs.Lists.{same-self, same_map, same_sum, filter-all, filter-none, each-of, each-map}
use Rattle.book.proofs.Fills.{live-true}
use Rattle.book.proofs.Passes.{filled-none, sum-zeros, product, counted, counted-none}

nothing : (q : ℕ) (queue : List Order) (x : Order) → q ≡ 0 → fill q queue x ≡ 0
nothing q queue x none = ap (λ n. fill n queue x) none ∙ omega arith

module _ (i : Order) (orders : List Order) where
  -- nothing is left, or nothing is crossed: each order stays as it is
  stays : Over i orders → AllByRecursion (λ x. settled i (crossing i orders) x ≡ x) orders
  stays (inl none) = each-of (λ x. settled i (crossing i orders) x ≡ x) (λ x. elim (crosses i x) as
      (λ b. (if b then after_fill (leaves i) (crossing i orders) x else x) ≡ x) [
        | true ↦ filled-none x (fill (leaves i) (crossing i orders) x) x.price
            (nothing (leaves i) (crossing i orders) x none)
        | false ↦ refl
      ]) orders
  stays (inr none) = each-map (λ x. crosses i x ≡ false) (λ x. settled i (crossing i orders) x ≡ x)
      (λ x h. ap (λ b. if b then after_fill (leaves i) (crossing i orders) x else x) h) orders none

  pub rest-over : Over i orders → AllByRecursion Rests orders → rest i orders ≡ orders
  rest-over over each =
      ap (filter is_live) (same_map (settled i (crossing i orders)) (λ x. x) orders (stays over) ∙ same-self orders)
      ∙ filter-all is_live orders (each-map Rests (λ x. is_live x ≡ true)
      (λ x r. let live = r.live in live-true x (omega (arith, live))) orders each)

  pub done-over : Over i orders → done i orders ≡ i
  done-over (inl none) =
      let f : Order → ℕ = fill (leaves i) (crossing i orders) in
      let cum : sum_by f (crossing i orders) ≡ 0 =
      same_sum f (λ x. 0) (crossing i orders)
      (each-of (λ x. f x ≡ 0) (λ x. nothing (leaves i) (crossing i orders) x none) (crossing i orders))
      ∙ sum-zeros (crossing i orders) in
      let notional : sum_by (λ x. f x * x.price) (crossing i orders) ≡ 0 =
      same_sum (λ x. f x * x.price) (λ x. 0) (crossing i orders)
      (each-of (λ x. f x * x.price ≡ 0) (λ x. product x.price (f x) (nothing (leaves i) (crossing i orders) x none))
      (crossing i orders))
      ∙ sum-zeros (crossing i orders) in
      ap (λ a. counted i (i.cum + a) (i.notional + sum_by (λ x. f x * x.price) (crossing i orders))) cum
      ∙ ap (λ a. counted i (i.cum + 0) (i.notional + a)) notional ∙ counted-none i
  done-over (inr none) = ap (λ q. after_fills i q q) (filter-none (crosses i) orders none) ∙ counted-none i

  pub told-over : (c : Cause) → Over i orders → trades c i orders ≡ []
  told-over c (inl none) =
      ap (λ zs. flat_map (trade c i (crossing i orders)) (by_priority zs))
      (filter-none (λ x. nat_lt 0 (fill (leaves i) (crossing i orders) x)) (crossing i orders)
      (each-of (λ x. nat_lt 0 (fill (leaves i) (crossing i orders) x) ≡ false)
      (λ x. ap (nat_lt 0) (nothing (leaves i) (crossing i orders) x none)) (crossing i orders)))
  told-over c (inr none) = ap (λ q. flat_map (trade c i q) (filled_orders (leaves i) q))
      (filter-none (crosses i) orders none)

  pub fills-over : Over i orders → fills i orders ≡ 0
  fills-over (inl none) =
      ap (λ zs. length (by_priority zs))
      (filter-none (λ x. nat_lt 0 (fill (leaves i) (crossing i orders) x)) (crossing i orders)
      (each-of (λ x. nat_lt 0 (fill (leaves i) (crossing i orders) x) ≡ false)
      (λ x. ap (nat_lt 0) (nothing (leaves i) (crossing i orders) x none)) (crossing i orders)))
  fills-over (inr none) = ap (λ q. length (filled_orders (leaves i) q)) (filter-none (crosses i) orders none)

-- the match is over, behind what has passed of it
pub record Ended (c : Cause) (first : Matching) (incoming : Order) (orders : List Order) (told : List Output)
    : Type 0 where
  pub left : AreLeft (rest first.incoming first.orders) first.orders orders
  pub done_is : incoming ≡ done first.incoming first.orders
  pub told_is : told ≡ first.told ++ trades c first.incoming first.orders

pub ended : {c : Cause} {first last : Matching} → Passed c first last → Over last.incoming last.orders
    → AreLeft last.orders first.orders last.orders → Ended c first last.incoming last.orders last.told
ended {c} {first} {last} passed over left = record {
  left = record {
    orders = sym (passed.left ∙ rest-over last.incoming last.orders over left.standing.each);
    standing = left.standing;
    below = left.below;
    no_longer = left.no_longer;
  };
  done_is = sym (passed.filled ∙ done-over last.incoming last.orders over);
  told_is = sym (passed.said ∙ ap (λ ts. last.told ++ ts) (told-over last.incoming last.orders c over)
      ∙ append-nil last.told);
}

-- a day order that crosses none rests as it came, and nothing more is told or read
module _ (i : Order) (orders : List Order) (none : NoneCrossed i orders) where
  pub rests-whole : AllByRecursion Rests orders → 0 < leaves i → matched Day i orders ≡ orders ++ i ∷ []
  rests-whole each some =
      ap (λ xs. xs ++ live_alone (done i orders)) (rest-over i orders (inr none) each)
      ∙ ap (λ o. orders ++ live_alone o) (done-over i orders (inr none))
      ∙ ap (λ b. orders ++ (if b then i ∷ [] else [])) (live-true i some)

  pub told-nothing : {Z : Type 0} (c : Cause) (out : Vec Output Z) → AddsOutputs (match_outputs c Day i orders) out out
  told-nothing c out = record {
    items = sym (ap (λ ts. out.items ++ ts) (told-over i orders c (inr none)) ∙ append-nil out.items);
    room = refl;
  }

  pub read-nothing : (reads : ℕ) → MatchReads Day i orders reads reads
  read-nothing reads =
      let none_filled = fills-over i orders (inr none) in
      record {
        matched = record { least = omega (arith, none_filled); most = omega (arith, none_filled) };
        killed = λ is unfilled. refl;
      }
