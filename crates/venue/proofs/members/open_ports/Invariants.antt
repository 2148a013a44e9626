-- each port tells what it told, and is open if it was come to
use Rattle.venue.specs.Members.{AreOpenUpTo}
use Rattle.venue.specs.Headline.{in_box, SamePorts}
use Rattle.venue.proofs.members.open_ports.Given as goal

abbrev pub invariant-loop-port : goal.invariant-loop-port
invariant-loop-port g l =
    SamePorts (in_box g.X.Port.tells) l.initial.port-items l.port-items
    × AreOpenUpTo l.port-index (in_box g.X.Port.tells) l.port-items
