-- The way to the name finds what the entries say.
use Rattle.std.proofs.Common.{Some, None, ap, sym, ◌∙◌}
use Rattle.book.specs.IndexNames.{place_of}
use Rattle.book.proofs.SlotTables.{read-finds}
use Rattle.book.proofs.order_index.OrderIndex.find.Goals as goal

pub returns-in_err-entry : goal.returns-in_err-entry
returns-in_err-entry c =
    c.from_residual.ensures
    ∙ read-finds c.self.inside.slots.items c.deref.result.now c.self.invariant c.deref.ensures.value c.args.client
    c.args.name c.reach-at.result c.reach-at.ensures.way c.reach-at.ensures.within c.index.result.now c.index.ensures
    None (sym c.entry.ensures ∙ c.in_err-entry.was)
    ∙ ap (λ entries. place_of entries c.args.client c.args.name) c.self.view_is

pub returns : goal.returns
returns c =
    read-finds c.self.inside.slots.items c.deref.result.now c.self.invariant c.deref.ensures.value c.args.client
    c.args.name c.reach-at.result c.reach-at.ensures.way c.reach-at.ensures.within c.index.result.now c.index.ensures
    (Some c.in_ok-entry.entry) (sym c.entry.ensures ∙ c.in_ok-entry.was)
    ∙ ap (λ entries. place_of entries c.args.client c.args.name) c.self.view_is
