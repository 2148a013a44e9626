-- The one seat is the first of the new ones.
use Rattle.std.proofs.Common.{arith}
use Rattle.venue.proofs.OpenedLemmas.{only_seat}
use Rattle.venue.proofs.serving.first_seat.Goals as goal

pub returns-clause-seat : goal.returns-clause-seat
returns-clause-seat c = let one = c.requires.one in let ok = c.args.gateways.now.ok.0 in
    only_seat c.args.rings.now c.args.gateways.now.items c.pop.new.self.items c.in-Some.seat c.in-Some.ensures.items
    (omega (arith, one, ok)) c.requires.new
