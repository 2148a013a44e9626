-- The first piece is such a field, or one of the others is.
use Rattle.std.proofs.Common.{◌∙◌, ◌-◌, ◌||◌, take, ap, sym, arith}
use Rattle.edge_frames.specs.Fields.{ended}
use Rattle.edge_frames.specs.Faults.{has_tag}
use Rattle.edge_frames.proofs.ListLemmas.{has_step}
use Rattle.edge_frames.proofs.verdict.has.Goals as goal

pub returns-then-is_good : goal.returns-then-is_good
returns-then-is_good c =
    sym (c.loop-room.invariant ∙ has_step c.args.tag c.loop-room.room c.loop-room.rest.now c.in-Some.piece.now
    c.in-Some.behind.now c.in-Some.ensures (omega (arith, c.loop-room-test.true)) ∙
    ap (λ t. t || has_tag c.args.tag (take (c.loop-room.room - 1) (ended c.in-Some.behind.now)))
    (sym c.if-is_good.ensures))

pub loop-room-preserved : goal.loop-room-preserved
loop-room-preserved c =
    c.loop-room.invariant ∙ has_step c.args.tag c.loop-room.room c.loop-room.rest.now c.in-Some.piece.now
    c.in-Some.behind.now c.in-Some.ensures (omega (arith, c.loop-room-test.true)) ∙
    ap (λ t. t || has_tag c.args.tag (take (c.loop-room.room - 1) (ended c.in-Some.behind.now)))
    (sym c.if-is_good.ensures)
