use Rattle.std.proofs.Common.{rules, None, ◌+◌, ◌<◌, ℕ, sym, subst}
use Rattle.ring_words.specs.Places.{processed}
use Rattle.ring_words.specs.Seats.{looked}
use Rattle.ring_words.specs.SeatLaws.{last_now, room_last_loaded}
use Rattle.ring_words.specs.At.{At}
use Rattle.ring_words.specs.Steps.{HasRoom}
use Rattle.sequencer.proofs.claim.sees_room.Goals as goal

pub returns-then-keeps_room-clause-free : goal.returns-then-keeps_room-clause-free
returns-then-keeps_room-clause-free g c = λ _. let kept = c.keeps_room.ensures.room c.if-keeps_room.true in
    room_last_loaded g.row.N c.args.seat.now.who kept.0 c.args.at kept.1 kept.2

pub returns-clause-free : goal.returns-clause-free
returns-clause-free g c = λ free. let p : ℕ = c.load_processed-processed.result in let before = c.args.seat.now.who in
    let room : c.args.at < p + g.row.N = search rules in
    subst (λ (z : At g.row.L.Denot). HasRoom g.row.N z.who c.args.at) (sym c.load_processed-processed.ensures.step)
    (room_last_loaded g.row.N (looked before processed p) p c.args.at (last_now processed None p before.loads) room)
