-- The entry leaves a gap, and its closing changes no name's place.
use Rattle.std.proofs.Common.{◌+◌, length, Some, ap, sym, ◌∙◌}
use Rattle.book.specs.IndexNames.{without_name, place_of}
use Rattle.book.proofs.SlotLeavings.{removed}
use Rattle.book.proofs.SlotTables.{read-finds, reads-entry}
use Rattle.book.proofs.order_index.OrderIndex.remove.Goals as goal

pub unwrap-entry-requires : goal.unwrap-entry-requires
unwrap-entry-requires c =
    reads-entry c.self.inside.slots.items c.deref.result.now c.args.self.now c.self.invariant c.deref.ensures.value
    c.self.view_is
    c.args.client c.args.name c.reach-at.result c.reach-at.ensures.way c.reach-at.ensures.within c.requires
    c.index.result.now c.index.ensures c.entry.result (sym c.entry.ensures)

pub close-requires : goal.close-requires
close-requires c =
    (removed c.self.inside.slots.items c.deref.result.now c.args.self.now c.self.invariant c.deref.ensures.value
    (sym c.self.view_is) c.args.client c.args.name c.reach-at.result c.reach-at.ensures.way c.requires).has_gap

pub returns-clause-place : goal.returns-clause-place
returns-clause-place c =
    sym (ap (λ entries. place_of entries c.args.client c.args.name) c.self.view_is)
    ∙ sym (read-finds c.self.inside.slots.items c.deref.result.now c.self.invariant c.deref.ensures.value c.args.client
    c.args.name
    c.reach-at.result c.reach-at.ensures.way c.reach-at.ensures.within c.index.result.now c.index.ensures
    (Some c.unwrap-entry.result) (sym c.entry.ensures ∙ c.unwrap-entry.ensures))

pub returns-clause-places : goal.returns-clause-places
returns-clause-places c =
    c.close.ensures.places
    ∙ (removed c.self.inside.slots.items c.deref.result.now c.args.self.now c.self.invariant c.deref.ensures.value
    (sym c.self.view_is) c.args.client c.args.name c.reach-at.result c.reach-at.ensures.way c.requires).places
    ∙ ap (λ v. without_name c.args.client c.args.name (place_of v)) c.self.view_is

pub returns-clause-entries : goal.returns-clause-entries
returns-clause-entries c =
    ap (λ n. n + 1) c.close.ensures.entries
    ∙ (removed c.self.inside.slots.items c.deref.result.now c.args.self.now c.self.invariant c.deref.ensures.value
    (sym c.self.view_is) c.args.client c.args.name c.reach-at.result c.reach-at.ensures.way c.requires).entries
    ∙ ap (λ v. length v) c.self.view_is
