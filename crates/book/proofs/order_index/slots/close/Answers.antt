-- At each slot the gap is closed, or the entry there stays or moves back.
use Rattle.std.proofs.Common.{sym, ◌∙◌, arith}
use Rattle.book.proofs.SlotClosings.{IsClosed, ends, gap-within, seen, next-read, step-stays, step-moves}
use Rattle.book.proofs.order_index.slots.close.Goals as goal
use Rattle.book.proofs.order_index.slots.close.Goals.{In_default, then-steps_to, else-steps_to}

closed : (c : In_default) → IsClosed c.args.slots.now.items c.loop-steps.slots.items
closed c = ends c.loop-steps.invariant c.loop-steps-test.true (seen c.loop-steps.invariant
    c.slot_from-slot.ensures.is c.index.ensures ∙ sym c.entry.ensures ∙ c.in_default.is)

pub returns-in_default-clause-table : goal.returns-in_default-clause-table
returns-in_default-clause-table c = (closed (goal.at.returns-in_default-clause-table c).In_default).table

pub returns-in_default-clause-places : goal.returns-in_default-clause-places
returns-in_default-clause-places c = (closed (goal.at.returns-in_default-clause-places c).In_default).places

pub steps_to-requires-clause-slot : goal.steps_to-requires-clause-slot
steps_to-requires-clause-slot c =
    omega (arith, gap-within c.loop-steps.invariant, c.loop-steps.invariant.has_gap.size)

pub index_mut-requires : goal.index_mut-requires
index_mut-requires c = omega (arith, gap-within c.loop-steps.invariant, c.loop-steps.slots.ok.0)

pub loop-steps-preserved : goal.loop-steps-preserved
loop-steps-preserved c =
    let closes = c.loop-steps.invariant in
    let next = next-read closes c.loop-steps-test.true c.slot_from-slot.ensures.is c.index.ensures
    (sym c.entry.ensures ∙ c.in-Some.is) c.home.ensures.is c.steps_to-in-loop-steps.ensures c.steps_to.ensures in
    elim c.if-steps_to.branch [
      | then-steps_to w ↦ step-moves closes next c.if-steps_to.slots.items c.if-steps_to.gap w.if-steps_to.true
          (rw (w.slots-is, w.of.ensures)) w.gap-is
      | else-steps_to w ↦ step-stays closes next c.if-steps_to.slots.items c.if-steps_to.gap w.if-steps_to.false
          (rw w.slots-is) w.gap-is
    ]
