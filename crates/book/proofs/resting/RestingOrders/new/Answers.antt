-- Nothing stands, and nothing is named.
use Rattle.std.proofs.Common.{sym, subst, refl}
use Rattle.book.specs.Keeping.{AreKept}
use Rattle.book.proofs.Keepings.{kept-nothing}
use Rattle.book.proofs.resting.RestingOrders.new.Goals as goal

pub invariant_of-orders : goal.invariant_of-orders
invariant_of-orders c =
    subst (λ places. AreKept places c.in_ok-index.index 0) (sym c.in_ok-levels.ensures)
    (subst (λ entries. AreKept _ entries 0) (sym c.in_ok-index.ensures) (kept-nothing 4096 refl))
