-- No more orders are filled than rest.
use Rattle.std.proofs.Common.{◌≡◌, suc, ◌≤◌, Bool, true, false, List, [], ◌∷◌, length, refl, ap, ◌∙◌, arith}
use Rattle.std.specs.Prelude.{filter, nat_lt, if◌then◌else◌}
use Rattle.venue_model.specs.declared.orders.Order.{Order}
use Rattle.venue_model.specs.Orders.{leaves, crosses, ahead}
use Rattle.venue_model.specs.Match.{crossing, fill, insert_by_priority, by_priority}
use Rattle.book.specs.Reads.{fills}
use Rattle.book.proofs.StandingLemmas.{length-filter-le}

length-put : (o : Order) (xs : List Order) → length (insert_by_priority o xs) ≡ suc (length xs)
length-put o [] = refl
length-put o (x ∷ xs) = elim (ahead o x) as (λ b. length (if b then o ∷ x ∷ xs else x ∷ insert_by_priority o xs)
    ≡ suc (suc (length xs)))
    [ true ↦ refl | false ↦ ap suc (length-put o xs) ]

length-by_priority : (xs : List Order) → length (by_priority xs) ≡ length xs
length-by_priority [] = refl
length-by_priority (x ∷ xs) = length-put x (by_priority xs) ∙ ap suc (length-by_priority xs)

pub few-fills : (i : Order) (orders : List Order) → fills i orders ≤ length orders
few-fills i orders =
    let gets : Order → Bool = λ o. nat_lt 0 (fill (leaves i) (crossing i orders) o) in
    let all = length-by_priority (filter gets (crossing i orders)) in
    let some = length-filter-le gets (crossing i orders) in
    let crossed = length-filter-le (crosses i) orders in
    omega (arith, all, some, crossed)
