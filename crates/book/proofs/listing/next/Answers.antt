-- The order that was asked for is found by its name.
use Rattle.std.proofs.Common.{◌≡◌, sym, subst, ◌∙◌, Some}
use Rattle.std.specs.Prelude.{find}
use Rattle.venue_model.specs.declared.orders.Order.{Order}
use Rattle.venue_model.specs.Requests.{is_named}
use Rattle.book.proofs.NextLemmas.{next-of-all, named-itself}
use Rattle.book.proofs.listing.next.Goals as goal

pub returns-in-None-clause-first : goal.returns-in-None-clause-first
returns-in-None-clause-first c is =
    next-of-all c.args.symbols.now c.args.orders.now c.first_from.result c.first_from.ensures

pub returns-in-Some-clause-next : goal.returns-in-Some-clause-next
returns-in-Some-clause-next c o is there =
    let same : o ≡ c.in-Some.from = let e : Some o ≡ Some c.in-Some.from = sym is ∙ c.in-Some.is in cc in
    c.next_behind.ensures o (subst (λ (x : Order). find (is_named x.client x.cl_ord_id) c.args.orders.now ≡ Some o) same
    (named-itself c.args.orders.now o c.requires.apart there))
