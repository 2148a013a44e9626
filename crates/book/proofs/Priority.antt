-- A list put in order of priority.
use Rattle.std.proofs.Common.{◌≡◌, true, false, List, [], ◌∷◌, ◌++◌, refl, ap, ◌∙◌}
use Rattle.std.specs.Prelude.{if◌then◌else◌}
use Rattle.std.specs.List.{AllByRecursion}
use Rattle.venue_model.specs.declared.orders.Order.{Order}
use Rattle.venue_model.specs.Orders.{ahead}
use Rattle.venue_model.specs.Match.{insert_by_priority, by_priority}
use Rattle.book.specs.Passes.{Leads}

-- what holds of each holds of each
pub each-insert : (P : Order → Type 0) (o : Order) (xs : List Order) → P o → AllByRecursion P xs
    → AllByRecursion P (insert_by_priority o xs)
each-insert P o [] this all = (this, tt)
each-insert P o (x ∷ xs) this all =
    elim (ahead o x) as (λ b. AllByRecursion P (if b then o ∷ x ∷ xs else x ∷ insert_by_priority o xs))
    [ true ↦ (this, all) | false ↦ (all.0, each-insert P o xs this all.1) ]

pub each-by_priority : (P : Order → Type 0) (xs : List Order) → AllByRecursion P xs → AllByRecursion P (by_priority xs)
each-by_priority P [] all = tt
each-by_priority P (x ∷ xs) all = each-insert P x (by_priority xs) all.0 (each-by_priority P xs all.1)

-- one that leads all of a list goes to its front
insert-first : (o : Order) (xs : List Order) → AllByRecursion (Leads o) xs → insert_by_priority o xs ≡ o ∷ xs
insert-first o [] all = refl
insert-first o (x ∷ xs) all = ap (λ b. if b then o ∷ x ∷ xs else x ∷ insert_by_priority o xs) all.0.ahead_of

-- behind it the others stay in order
pub first-by_priority : (o : Order) (xs ys : List Order) → AllByRecursion (Leads o) xs → AllByRecursion (Leads o) ys →
    by_priority (xs ++ o ∷ ys) ≡ o ∷ by_priority (xs ++ ys)
first-by_priority o [] ys before behind = insert-first o (by_priority ys) (each-by_priority (Leads o) ys behind)
first-by_priority o (x ∷ xs) ys before behind =
    ap (insert_by_priority x) (first-by_priority o xs ys before.1 behind)
    ∙ ap (λ b. if b then x ∷ o ∷ by_priority (xs ++ ys) else o ∷ insert_by_priority x (by_priority (xs ++ ys)))
    before.0.not_behind
