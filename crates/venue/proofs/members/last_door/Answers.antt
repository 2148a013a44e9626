-- The door that is taken is the last one, and the others stay.
use Rattle.std.proofs.Common.{arith}
use Rattle.venue_model.specs.ListLaws.{at_longer}
use Rattle.venue.specs.Members.{IsDoor}
use Rattle.venue.proofs.MemberLemmas.{of_last}
use Rattle.venue.proofs.members.last_door.Goals as goal

pub returns-clause-left : goal.returns-clause-left
returns-clause-left g c = λ i x there. c.requires i x
    (rw c.pop.ensures.items (at_longer c.pop.new.self.items _ i x there))

pub returns-clause-last : goal.returns-clause-last
returns-clause-last g c = let ok = c.args.doors.now.ok.0 in
    of_last (IsDoor c.args.rings.now) c.args.doors.now.items c.pop.new.self.items c.in_ok-door.door
    c.in_ok-door.ensures.items c.requires _ (omega (arith, ok))
