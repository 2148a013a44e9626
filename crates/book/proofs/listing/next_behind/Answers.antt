-- The one behind it in its group, or else the first of the later ones.
use Rattle.std.proofs.Common.{◌≡◌, ◌+◌, sym, subst, ap, ◌∙◌, arith, Some}
use Rattle.book.specs.Next.{group_of, FirstFrom}
use Rattle.book.proofs.NextLemmas.{found-below, next-in-group, next-of-later}
use Rattle.book.proofs.listing.next_behind.Goals as goal

pub overflow_add-group_of : goal.overflow_add-group_of
overflow_add-group_of c =
    let below = found-below c.args.symbols.now c.args.orders.now c.requires.table.differ c.requires.known
    c.args.client c.args.name c.in_ok-order.order (sym c.in_ok-order.ensures.order) in
    omega (arith, below)

pub returns-in-Some : goal.returns-in-Some
returns-in-Some c o found =
    next-in-group c.args.symbols.now c.args.orders.now c.requires.table.differ c.requires.known
    c.args.client c.args.name o found c.in-Some.next (c.in-Some.ensures o found)

pub returns : goal.returns
returns c o found =
    let same : c.in_ok-order.order ≡ o =
    let e : Some c.in_ok-order.order ≡ Some o = c.in_ok-order.ensures.order ∙ found in cc in
    next-of-later c.args.symbols.now c.args.orders.now c.requires.table.differ c.requires.known
    c.args.client c.args.name o found (c.in_default.ensures o found) c.first_from.result
    (subst (λ group. FirstFrom c.args.symbols.now (group + 1) c.args.orders.now c.first_from.result)
    (c.group_of.ensures ∙ ap (group_of c.args.symbols.now) same) c.first_from.ensures)
