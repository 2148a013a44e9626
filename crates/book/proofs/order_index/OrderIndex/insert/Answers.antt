-- The new entry stands where the way to its name ends.
use Rattle.std.proofs.Common.{sym, subst}
use Rattle.std.specs.Prelude.{slice_set}
use Rattle.book.proofs.SlotTables.{IsInsert, inserted}
use Rattle.book.proofs.order_index.OrderIndex.insert.Goals as goal

pub invariant_of-self : goal.invariant_of-self
invariant_of-self c =
    let slots = c.self.inside.slots.items in
    (subst (λ slot. IsInsert slots (slice_set slots c.reach-at.result slot) c.args.client c.args.name c.args.place
    c.args.self.now) (sym
    c.of.ensures) (inserted slots c.deref.result.now c.args.self.now c.self.invariant c.deref.ensures.value
    (sym c.self.view_is) c.args.client
    c.args.name c.reach-at.result c.reach-at.ensures.way c.reach-at.ensures.within c.requires.fresh c.requires.room
    c.args.place)).table

pub returns-clause-places : goal.returns-clause-places
returns-clause-places c =
    let slots = c.self.inside.slots.items in
    (subst (λ slot. IsInsert slots (slice_set slots c.reach-at.result slot) c.args.client c.args.name c.args.place
    c.args.self.now) (sym
    c.of.ensures) (inserted slots c.deref.result.now c.args.self.now c.self.invariant c.deref.ensures.value
    (sym c.self.view_is) c.args.client
    c.args.name c.reach-at.result c.reach-at.ensures.way c.reach-at.ensures.within c.requires.fresh c.requires.room
    c.args.place)).places

pub returns-clause-entries : goal.returns-clause-entries
returns-clause-entries c =
    let slots = c.self.inside.slots.items in
    (subst (λ slot. IsInsert slots (slice_set slots c.reach-at.result slot) c.args.client c.args.name c.args.place
    c.args.self.now) (sym
    c.of.ensures) (inserted slots c.deref.result.now c.args.self.now c.self.invariant c.deref.ensures.value
    (sym c.self.view_is) c.args.client
    c.args.name c.reach-at.result c.reach-at.ensures.way c.reach-at.ensures.within c.requires.fresh c.requires.room
    c.args.place)).entries
