-- The seat that is taken is the last one, and the others stay.
use Rattle.std.proofs.Common.{length, ap, sym, ◌∙◌}
use Rattle.ring_words.specs.At.{At, at}
use Rattle.bench.proofs.Seats.{stays, last_one}
use Rattle.bench.proofs.stages_rate.path.next_seat.Goals as goal

pub returns-clause-left : goal.returns-clause-left
returns-clause-left g c = λ i s there. c.requires i s (rw c.pop.ensures.items (stays c.pop.new.self.items _ i s there))

pub returns-clause-next : goal.returns-clause-next
returns-clause-next g c =
    let left = c.pop.new.self.items in
    let new = c.requires (length left) c.in_ok-seat.seat
    (rw c.in_ok-seat.ensures.items (last_one left c.in_ok-seat.seat)) in
    new ∙ ap (λ (s : At _). at c.args.rings.now s.who) (sym new)
