-- All slots are free.
use Rattle.std.proofs.Common.{ap, sym, subst, ◌∙◌, refl}
use Rattle.book.specs.Slots.{entries_of, IsTable}
use Rattle.book.proofs.SlotLemmas.{all-free}
use Rattle.book.proofs.SlotTables.{empty-table}
use Rattle.book.proofs.order_index.OrderIndex.new.Goals as goal

pub invariant_of-result : goal.invariant_of-result
invariant_of-result c = subst IsTable (sym (c.in_ok-slots.ensures.items_if_clones_equal (λ y e. e)))
    (empty-table 8192 refl)

pub returns : goal.returns
returns c = ap entries_of (c.in_ok-slots.ensures.items_if_clones_equal (λ y e. e)) ∙ all-free 8192
