use Rattle.std.proofs.Common.{◌≡◌, Bool, true, false, not, List, [], ◌∷◌, Some, refl, ap, sym, ◌∙◌}
use Rattle.std.specs.Prelude.{find, if◌then◌else◌}
use Rattle.std.specs.Option.{is_some}
use Rattle.std.specs.List.{AllByRecursion}
use Rattle.venue_model.specs.declared.orders.Order.{Order}
use Rattle.venue_model.specs.Requests.{is_named}
use Rattle.book.proofs.snapshot.rows.is_new.Goals as goal

none-found : (p : Order → Bool) (xs : List Order) → is_some (find p xs) ≡ false → AllByRecursion (λ x. p x ≡ false) xs
none-found p [] none = tt
none-found p (x ∷ xs) none = elim (p x) as (λ b. p x ≡ b → is_some (if b then Some x else find p xs) ≡ false
    → AllByRecursion (λ y. p y ≡ false) (x ∷ xs))
    [ true ↦ λ h k. absurd (cc) | false ↦ λ h k. (h, none-found p xs k) ] refl none

none-there : (p : Order → Bool) (xs : List Order) → AllByRecursion (λ x. p x ≡ false) xs → is_some (find p xs) ≡ false
none-there p [] none = refl
none-there p (x ∷ xs) none = ap (λ b. is_some (if b then Some x else find p xs)) none.0 ∙ none-there p xs none.1

not-false : (b : Bool) → not b ≡ false → b ≡ true
not-false true h = refl
not-false false h = cc

pub returns : goal.returns
returns c =
    let p : Order → Bool = is_named c.args.order.now.client c.args.order.now.cl_ord_id in
    let found : is_some (find p c.args.orders.now) ≡ not c.is_none.result =
    ap is_some (sym c.named.ensures.order) ∙ c.is_none.ensures in (
      (λ yes. none-found p c.args.orders.now (found ∙ ap not yes)),
      (λ none. not-false c.is_none.result (sym found ∙ none-there p c.args.orders.now none)),
    )
