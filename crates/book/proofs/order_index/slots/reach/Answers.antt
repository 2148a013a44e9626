-- The way goes on over entries of other names; it ends before all slots are passed.
use Rattle.book.proofs.SlotLemmas.{never-full}
use Rattle.book.proofs.order_index.slots.reach.Goals as goal

pub unreachable-requires : goal.unreachable-requires
unreachable-requires c = never-full c.args.slots.now c.requires c.args.client c.args.name c.loop-steps.steps
    c.loop-steps-test.false c.loop-steps.invariant
