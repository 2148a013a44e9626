use Rattle.std.proofs.Common.{ℕ, subst}
use Rattle.sequencer.specs.Rooms.{KeepsRoom}
use Rattle.sequencer.proofs.Rooms.{keeps_free}
use Rattle.sequencer.proofs.put.room.Goals as goal

pub returns-in-Some-clause-free : goal.returns-in-Some-clause-free
returns-in-Some-clause-free g c = λ i below. let p = c.args.seat.now.who in
    keeps_free g.row.G g.row.M p c.in-Some.room i (subst (λ (z : ℕ × ℕ). KeepsRoom z.0 z.1 p c.in-Some.room)
    (λ j. (c.gateways.ensures.value j, c.output_rows.ensures.value j)) c.in-Some.ensures.kept) below
