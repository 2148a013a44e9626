-- One fill of a match: what the definitions say of the orders before it is what they say of the orders behind it,
-- with the fill itself in front.
use Rattle.std.proofs.Common.{◌≡◌, ℕ, suc, ◌+◌, ◌*◌, ◌<◌, Bool, true, false, not, nat_lt, List, [], ◌∷◌, ◌++◌, length}
use Rattle.std.proofs.Common.{map, refl, ap, sym, ◌∙◌, arith, add-zero}
use Rattle.std.specs.Prelude.{sum_by, filter, if◌then◌else◌}
use Rattle.std.specs.List.{AllByRecursion, flat_map}
use Rattle.std.proofs.lemmas.List.{map-append}
use Rattle.std.proofs.lemmas.List.Elements.{filter-append}
use Rattle.std.proofs.lemmas.List.Sums.{sum_by-append, sum_by-cons}
use Rattle.std.proofs.lemmas.Bool.Decides.{nat_tests}
use Rattle.venue_model.specs.declared.orders.Order.{Order}
use Rattle.venue_model.specs.declared.outputs.Cause.{Cause}
use Rattle.venue_model.specs.declared.outputs.Output.{Output}
use Rattle.venue_model.specs.declared.outputs.ExecType.TheVariants.{Trade}
use Rattle.venue_model.specs.Orders.{leaves, is_live, crosses, ahead}
use Rattle.venue_model.specs.Match.{crossing, filled, fill, after_fill, after_fills, settled, done, rest, by_priority}
use Rattle.venue_model.specs.Match.{filled_orders, trade, trades, exec, live_alone}
use Rattle.book.specs.Passes.{Leads, First, traded, resting_after, incoming_after, orders_after, reports}
use Rattle.book.proofs.Lists.{same_map, same_flat_map, same_sum, same_filter, filter-in, filter-none, each-append}
use Rattle.book.proofs.Lists.{each-map, each-filter, each-passes, sum-middle}
use Rattle.book.proofs.Fills.{left, leaves-filled, fill-first, fill-behind}
use Rattle.book.proofs.Priority.{each-by_priority, first-by_priority}

-- an order with these sums
abbrev pub counted : Order → ℕ → ℕ → Order
counted o cum notional = record o { cum = cum; notional = notional }

pub product : (p n : ℕ) → n ≡ 0 → n * p ≡ 0
product p n none = rw none (omega arith)

-- a fill of nothing changes nothing
pub filled-none : (o : Order) (n p : ℕ) → n ≡ 0 → filled o n p ≡ o
filled-none o n p none =
    let cum : o.cum + n ≡ o.cum = omega arith in
    let notional : o.notional + n * p ≡ o.notional = omega (arith, product p n none) in
    ap (λ a. record o { cum = a; notional = o.notional + n * p }) cum ∙ ap (λ b. record o { notional = b }) notional

pub sum-zeros : (xs : List Order) → sum_by (λ x. 0) xs ≡ 0
sum-zeros [] = refl
sum-zeros (x ∷ xs) = let more = sum_by-cons (λ (y : Order). 0) x xs in
    let rest = sum-zeros xs in
    omega (arith, more, rest)

-- two queues in which each order gets the same, but one that gets n of the first in the middle
sums-behind : (f g : Order → ℕ) (o : Order) (n : ℕ) (xs ls ys : List Order) → f o ≡ n
    → AllByRecursion (λ x. g x ≡ 0) ls →
    AllByRecursion (λ x. f x ≡ g x) xs → AllByRecursion (λ x. f x ≡ g x) ys →
    sum_by f (xs ++ o ∷ ys) ≡ n + sum_by g (xs ++ (ls ++ ys))
sums-behind f g o n xs ls ys this none before behind =
    let whole = sum-middle f xs ys o in
    let front = sum_by-append f xs ys in
    let after = sum_by-append g xs (ls ++ ys) in
    let middle = sum_by-append g ls ys in
    let nothing : sum_by g ls ≡ 0 = same_sum g (λ x. 0) ls none ∙ sum-zeros ls in
    let same_before = same_sum f g xs before in
    let same_behind = same_sum f g ys behind in
    omega (arith, whole, front, after, middle, nothing, same_before, same_behind, this)

pub counted-none : (o : Order) → counted o (o.cum + 0) (o.notional + 0) ≡ o
counted-none o = ap (λ a. counted o a (o.notional + 0)) (add-zero o.cum) ∙ ap (counted o o.cum) (add-zero o.notional)

positive : (n : ℕ) → 0 < n → nat_lt 0 n ≡ true
positive n some = grind (arith, nat_tests)

-- the two reports of a fill of n
abbrev both : Cause → ℕ → Order → Order → List Output
both c n o after = exec c (Trade n o.price) (filled o n o.price) ∷ exec c (Trade n o.price) after ∷ []

-- one at the front stays where something is left of it
live-front : (o : Order) (zs : List Order) → filter is_live (o ∷ zs) ≡ live_alone o ++ filter is_live zs
live-front o zs = elim (is_live o) as
    (λ b. (if b then o ∷ filter is_live zs else filter is_live zs) ≡ (if b then o ∷ [] else []) ++ filter is_live zs)
    [ true ↦ refl | false ↦ refl ]

module _ (i o : Order) (us vs : List Order) (first : First i o us vs) (apart : ahead o o ≡ false) where
  abbrev before : List Order
  before = filter (crosses i) us ++ o ∷ filter (crosses i) vs

  abbrev behind : List Order
  behind = filter (crosses i) us ++ (left (leaves i) o ++ filter (crosses i) vs)

  crossing-before : crossing i (us ++ o ∷ vs) ≡ before
  crossing-before = filter-in (crosses i) us vs o first.is_crossed

  crossing-left : filter (crosses i) (left (leaves i) o) ≡ left (leaves i) o
  crossing-left = elim (is_live (resting_after i o)) as
      (λ b. filter (crosses i) (if b then resting_after i o ∷ [] else []) ≡ (if b then resting_after i o ∷ [] else []))
      [ true ↦ ap (λ b. if b then resting_after i o ∷ [] else []) first.is_crossed | false ↦ refl ]

  crossing-behind : crossing (incoming_after i o) (orders_after i o us vs) ≡ behind
  crossing-behind =
      filter-append (crosses i) us (left (leaves i) o ++ vs)
      ∙ ap (λ zs. filter (crosses i) us ++ zs) (filter-append (crosses i) (left (leaves i) o) vs
      ∙ ap (λ zs. zs ++ filter (crosses i) vs) crossing-left)

  leads-cus : AllByRecursion (Leads o) (filter (crosses i) us)
  leads-cus = each-passes (Leads o) (crosses i) us first.leads_before

  leads-cvs : AllByRecursion (Leads o) (filter (crosses i) vs)
  leads-cvs = each-passes (Leads o) (crosses i) vs first.leads_behind

  not-behind : (xs : List Order) → AllByRecursion (Leads o) xs → AllByRecursion (λ x. ahead x o ≡ false) xs
  not-behind xs all = each-map (Leads o) (λ x. ahead x o ≡ false) (λ x l. l.not_behind) xs all

  -- the first one gets all that both have
  fill-o : fill (leaves i) before o ≡ traded i o
  fill-o = fill-first (leaves i) o (filter (crosses i) us) (filter (crosses i) vs) apart (not-behind _ leads-cus)
      (not-behind _ leads-cvs)

  -- the others get the same of what is left
  fill-x : (x : Order) → Leads o x → fill (leaves i) before x ≡ fill (leaves (incoming_after i o)) behind x
  fill-x x leads = fill-behind (leaves i) o (filter (crosses i) us) (filter (crosses i) vs) x leads.ahead_of
      ∙ ap (λ q. fill q behind x) (sym (leaves-filled i (traded i o) o.price))

  -- where something is left of the first one, nothing is left of the incoming order
  spent : is_live (resting_after i o) ≡ true → leaves (incoming_after i o) ≡ 0
  spent live = grind (arith, nat_tests)

  nothing-more : (x : Order) → leaves (incoming_after i o) ≡ 0 → fill (leaves (incoming_after i o)) behind x ≡ 0
  nothing-more x none = ap (λ q. fill q behind x) none ∙ omega arith

  fill-left : AllByRecursion (λ x. fill (leaves (incoming_after i o)) behind x ≡ 0) (left (leaves i) o)
  fill-left = elim (is_live (resting_after i o)) as
      (λ b. is_live (resting_after i o) ≡ b →
      AllByRecursion (λ x. fill (leaves (incoming_after i o)) behind x ≡ 0) (if b then resting_after i o ∷ [] else []))
      [ true ↦ λ live. (nothing-more (resting_after i o) (spent live), tt) | false ↦ λ gone. tt ] refl

  fills-x : (xs : List Order) → AllByRecursion (Leads o) xs →
      AllByRecursion (λ x. fill (leaves i) before x ≡ fill (leaves (incoming_after i o)) behind x) xs
  fills-x xs all = each-map (Leads o) (λ x. fill (leaves i) before x ≡ fill (leaves (incoming_after i o)) behind x)
      fill-x xs all

  -- the incoming order behind its fills with the first one and some others
  grown : (xs ls ys : List Order) → AllByRecursion (Leads o) xs → AllByRecursion (Leads o) ys →
      AllByRecursion (λ x. fill (leaves (incoming_after i o)) behind x ≡ 0) ls →
      after_fills i before (xs ++ o ∷ ys) ≡ after_fills (incoming_after i o) behind (xs ++ (ls ++ ys))
  grown xs ls ys lead_xs lead_ys none =
      let f : Order → ℕ = fill (leaves i) before in
      let g : Order → ℕ = fill (leaves (incoming_after i o)) behind in
      let quantities : sum_by f (xs ++ o ∷ ys) ≡ traded i o + sum_by g (xs ++ (ls ++ ys)) =
      sums-behind f g o (traded i o) xs ls ys fill-o none (fills-x xs lead_xs) (fills-x ys lead_ys) in
      let values : sum_by (λ x. f x * x.price) (xs ++ o ∷ ys)
      ≡ traded i o * o.price + sum_by (λ x. g x * x.price) (xs ++ (ls ++ ys)) =
      sums-behind (λ x. f x * x.price) (λ x. g x * x.price) o (traded i o * o.price) xs ls ys
      (ap (λ n. n * o.price) fill-o)
      (each-map (λ x. g x ≡ 0) (λ x. g x * x.price ≡ 0) (λ x z. product x.price (g x) z) ls none)
      (each-map (λ x. f x ≡ g x) (λ x. f x * x.price ≡ g x * x.price) (λ x e. ap (λ n. n * x.price) e) xs
      (fills-x xs lead_xs))
      (each-map (λ x. f x ≡ g x) (λ x. f x * x.price ≡ g x * x.price) (λ x e. ap (λ n. n * x.price) e) ys
      (fills-x ys lead_ys)) in
      let cum : i.cum + sum_by f (xs ++ o ∷ ys) ≡ i.cum + traded i o + sum_by g (xs ++ (ls ++ ys)) =
      omega (arith, quantities) in
      let notional : i.notional + sum_by (λ x. f x * x.price) (xs ++ o ∷ ys)
      ≡ i.notional + traded i o * o.price + sum_by (λ x. g x * x.price) (xs ++ (ls ++ ys)) = omega (arith, values) in
      ap (λ a. counted i a (i.notional + sum_by (λ x. f x * x.price) (xs ++ o ∷ ys))) cum
      ∙ ap (counted i (i.cum + traded i o + sum_by g (xs ++ (ls ++ ys)))) notional

  -- the incoming order when the match is over
  pub done-step : done i (us ++ o ∷ vs) ≡ done (incoming_after i o) (orders_after i o us vs)
  done-step =
      ap (λ q. after_fills i q q) crossing-before
      ∙ grown (filter (crosses i) us) (left (leaves i) o) (filter (crosses i) vs) leads-cus leads-cvs fill-left
      ∙ ap (λ q. after_fills (incoming_after i o) q q) (sym crossing-behind)

  -- the resting orders when it is over
  settled-same : (x : Order) → (crosses i x ≡ true → Leads o x)
      → settled i before x ≡ settled (incoming_after i o) behind x
  settled-same x leads = elim (crosses i x) as
      (λ b. crosses i x ≡ b → (if b then after_fill (leaves i) before x else x)
      ≡ (if b then after_fill (leaves (incoming_after i o)) behind x else x))
      [ true ↦ λ h. ap (λ n. filled x n x.price) (fill-x x (leads h)) | false ↦ λ h. refl ] refl

  settled-o : settled i before o ≡ resting_after i o
  settled-o = ap (λ b. if b then after_fill (leaves i) before o else o) first.is_crossed
      ∙ ap (λ n. filled o n o.price) fill-o

  settled-left : is_live (resting_after i o) ≡ true → settled (incoming_after i o) behind (resting_after i o)
      ≡ resting_after i o
  settled-left live =
      ap (λ b. if b then after_fill (leaves (incoming_after i o)) behind (resting_after i o) else resting_after i o)
      first.is_crossed
      ∙ filled-none (resting_after i o) (fill (leaves (incoming_after i o)) behind (resting_after i o)) o.price
      (nothing-more (resting_after i o) (spent live))

  settled-all : (xs : List Order) → AllByRecursion (λ x. crosses i x ≡ true → Leads o x) xs →
      map (settled i before) xs ≡ map (settled (incoming_after i o) behind) xs
  settled-all xs all = same_map (settled i before) (settled (incoming_after i o) behind) xs
      (each-map (λ x. crosses i x ≡ true → Leads o x) (λ x. settled i before x ≡ settled (incoming_after i o) behind x)
      settled-same xs all)

  live-left : filter is_live (map (settled (incoming_after i o) behind) (left (leaves i) o))
      ≡ live_alone (resting_after i o)
  live-left = elim (is_live (resting_after i o)) as
      (λ b. is_live (resting_after i o) ≡ b →
      filter is_live (map (settled (incoming_after i o) behind) (if b then resting_after i o ∷ [] else []))
      ≡ (if b then resting_after i o ∷ [] else [])) [
        | true ↦ λ live. ap (λ x. filter is_live (x ∷ [])) (settled-left live)
            ∙ ap (λ b. if b then resting_after i o ∷ [] else []) live
        | false ↦ λ gone. refl
      ] refl

  pub rest-step : rest i (us ++ o ∷ vs) ≡ rest (incoming_after i o) (orders_after i o us vs)
  rest-step =
      let f : Order → Order = settled i before in
      let g : Order → Order = settled (incoming_after i o) behind in
      let old : filter is_live (map f (us ++ o ∷ vs)) ≡ filter is_live (map f us)
      ++ (live_alone (resting_after i o) ++ filter is_live (map f vs)) =
      ap (filter is_live) (map-append f us (o ∷ vs))
      ∙ ap (λ y. filter is_live (map f us ++ y ∷ map f vs)) settled-o
      ∙ filter-append is_live (map f us) (resting_after i o ∷ map f vs)
      ∙ ap (λ zs. filter is_live (map f us) ++ zs) (live-front (resting_after i o) (map f vs)) in
      let new : filter is_live (map g (us ++ (left (leaves i) o ++ vs)))
      ≡ filter is_live (map g us) ++ (live_alone (resting_after i o) ++ filter is_live (map g vs)) =
      ap (filter is_live) (map-append g us (left (leaves i) o ++ vs))
      ∙ filter-append is_live (map g us) (map g (left (leaves i) o ++ vs))
      ∙ ap (λ zs. filter is_live (map g us) ++ filter is_live zs) (map-append g (left (leaves i) o) vs)
      ∙ ap (λ zs. filter is_live (map g us) ++ zs) (filter-append is_live (map g (left (leaves i) o)) (map g vs))
      ∙ ap (λ zs. filter is_live (map g us) ++ (zs ++ filter is_live (map g vs))) live-left in
      ap (λ q. filter is_live (map (settled i q) (us ++ o ∷ vs))) crossing-before
      ∙ old
      ∙ ap (λ zs. filter is_live zs ++ (live_alone (resting_after i o) ++ filter is_live (map f vs)))
      (settled-all us first.leads_before)
      ∙ ap (λ zs. filter is_live (map g us) ++ (live_alone (resting_after i o) ++ filter is_live zs))
      (settled-all vs first.leads_behind)
      ∙ sym new
      ∙ ap (λ q. filter is_live (map (settled (incoming_after i o) q) (us ++ (left (leaves i) o ++ vs))))
      (sym crossing-behind)

  -- the reports
  abbrev gets_before : Order → Bool
  gets_before x = nat_lt 0 (fill (leaves i) before x)

  abbrev gets_behind : Order → Bool
  gets_behind x = nat_lt 0 (fill (leaves (incoming_after i o)) behind x)

  none-left : filter gets_behind (left (leaves i) o) ≡ []
  none-left = filter-none gets_behind (left (leaves i) o)
      (each-map (λ x. fill (leaves (incoming_after i o)) behind x ≡ 0) (λ x. gets_behind x ≡ false)
      (λ x z. ap (nat_lt 0) z) (left (leaves i) o) fill-left)

  gets-same : (xs : List Order) → AllByRecursion (Leads o) xs → filter gets_before xs ≡ filter gets_behind xs
  gets-same xs all = same_filter gets_before gets_behind xs
      (each-map (Leads o) (λ x. gets_before x ≡ gets_behind x) (λ x l. ap (nat_lt 0) (fill-x x l)) xs all)

  -- who gets something of what is left
  abbrev others : List Order
  others = filter gets_behind (filter (crosses i) us) ++ filter gets_behind (filter (crosses i) vs)

  others-behind : filter gets_behind behind ≡ others
  others-behind =
      filter-append gets_behind (filter (crosses i) us) (left (leaves i) o ++ filter (crosses i) vs)
      ∙ ap (λ zs. filter gets_behind (filter (crosses i) us) ++ zs)
      (filter-append gets_behind (left (leaves i) o) (filter (crosses i) vs)
      ∙ ap (λ zs. zs ++ filter gets_behind (filter (crosses i) vs)) none-left)

  leads-others : AllByRecursion (Leads o) others
  leads-others = each-append (Leads o) (filter gets_behind (filter (crosses i) us))
      (filter gets_behind (filter (crosses i) vs))
      (each-filter (Leads o) gets_behind (filter (crosses i) us) leads-cus)
      (each-filter (Leads o) gets_behind (filter (crosses i) vs) leads-cvs)

  -- who gets something: the first one, and then these
  filled-before : 0 < traded i o → filled_orders (leaves i) before ≡ o ∷ by_priority others
  filled-before some =
      let gets_o : gets_before o ≡ true = ap (nat_lt 0) fill-o ∙ positive (traded i o) some in
      ap by_priority (filter-in gets_before (filter (crosses i) us) (filter (crosses i) vs) o gets_o
      ∙ ap (λ zs. zs ++ o ∷ filter gets_before (filter (crosses i) vs)) (gets-same (filter (crosses i) us) leads-cus)
      ∙ ap (λ zs. filter gets_behind (filter (crosses i) us) ++ o ∷ zs) (gets-same (filter (crosses i) vs) leads-cvs))
      ∙ first-by_priority o (filter gets_behind (filter (crosses i) us)) (filter gets_behind (filter (crosses i) vs))
      (each-filter (Leads o) gets_behind (filter (crosses i) us) leads-cus)
      (each-filter (Leads o) gets_behind (filter (crosses i) vs) leads-cvs)

  -- the others are told the same
  told-x : (c : Cause) (x : Order) → Leads o x → trade c i before x ≡ trade c (incoming_after i o) behind x
  told-x c x leads =
      let t : Order → Bool = λ y. not (ahead x y) in
      let so_far : after_fills i before (filter t before) ≡ after_fills (incoming_after i o) behind (filter t behind) =
      ap (after_fills i before) (filter-in t (filter (crosses i) us) (filter (crosses i) vs) o
      (ap not leads.not_behind))
      ∙ grown (filter t (filter (crosses i) us)) (filter t (left (leaves i) o)) (filter t (filter (crosses i) vs))
      (each-filter (Leads o) t (filter (crosses i) us) leads-cus)
      (each-filter (Leads o) t (filter (crosses i) vs) leads-cvs)
      (each-filter (λ x. fill (leaves (incoming_after i o)) behind x ≡ 0) t (left (leaves i) o) fill-left)
      ∙ ap (λ zs. after_fills (incoming_after i o) behind (filter t (filter (crosses i) us) ++ zs))
      (sym (filter-append t (left (leaves i) o) (filter (crosses i) vs)))
      ∙ ap (after_fills (incoming_after i o) behind)
      (sym (filter-append t (filter (crosses i) us) (left (leaves i) o ++ filter (crosses i) vs))) in
      ap (λ n. both c n x (after_fills i before (filter t before))) (fill-x x leads)
      ∙ ap (both c (fill (leaves (incoming_after i o)) behind x) x) so_far

  -- the first one's two reports
  told-o : (c : Cause) → trade c i before o ≡ reports c i o
  told-o c =
      let t : Order → Bool = λ y. not (ahead o y) in
      let none : (xs : List Order) → AllByRecursion (Leads o) xs → filter t xs ≡ [] = λ xs all.
      filter-none t xs (each-map (Leads o) (λ x. t x ≡ false) (λ x l. ap not l.ahead_of) xs all) in
      let alone : filter t before ≡ o ∷ [] =
      filter-in t (filter (crosses i) us) (filter (crosses i) vs) o (ap not apart)
      ∙ ap (λ zs. zs ++ o ∷ filter t (filter (crosses i) vs)) (none (filter (crosses i) us) leads-cus)
      ∙ ap (λ zs. o ∷ zs) (none (filter (crosses i) vs) leads-cvs) in
      let so_far : after_fills i before (filter t before) ≡ incoming_after i o =
      ap (after_fills i before) alone ∙ grown [] [] [] tt tt tt ∙ counted-none (incoming_after i o) in
      ap (λ n. both c n o (after_fills i before (filter t before))) fill-o ∙ ap (both c (traded i o) o) so_far

  pub told-step : (c : Cause) → 0 < traded i o →
      trades c i (us ++ o ∷ vs) ≡ reports c i o ++ trades c (incoming_after i o) (orders_after i o us vs)
  told-step c some =
      ap (λ q. flat_map (trade c i q) (filled_orders (leaves i) q)) crossing-before
      ∙ ap (flat_map (trade c i before)) (filled-before some)
      ∙ ap (λ zs. zs ++ flat_map (trade c i before) (by_priority others)) (told-o c)
      ∙ ap (λ zs. reports c i o ++ zs)
      (same_flat_map (trade c i before) (trade c (incoming_after i o) behind) (by_priority others)
      (each-by_priority (λ x. trade c i before x ≡ trade c (incoming_after i o) behind x) others
      (each-map (Leads o) (λ x. trade c i before x ≡ trade c (incoming_after i o) behind x) (told-x c) others
      leads-others)))
      ∙ ap (λ zs. reports c i o ++ flat_map (trade c (incoming_after i o) behind) (by_priority zs)) (sym others-behind)
      ∙ ap (λ q. reports c i o ++ flat_map (trade c (incoming_after i o) q)
      (filled_orders (leaves (incoming_after i o)) q)) (sym crossing-behind)

  -- one order less gets something
  pub gets-one : 0 < traded i o → length (filled_orders (leaves i) (crossing i (us ++ o ∷ vs)))
      ≡ suc (length (filled_orders (leaves (incoming_after i o))
      (crossing (incoming_after i o) (orders_after i o us vs))))
  gets-one some =
      ap (λ q. length (filled_orders (leaves i) q)) crossing-before
      ∙ ap (λ zs. length zs) (filled-before some)
      ∙ ap (λ zs. suc (length (by_priority zs))) (sym others-behind)
      ∙ ap (λ q. suc (length (filled_orders (leaves (incoming_after i o)) q))) (sym crossing-behind)
