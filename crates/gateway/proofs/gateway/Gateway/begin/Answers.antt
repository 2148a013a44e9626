-- A session that is begun has had no course.
use Rattle.std.proofs.Common.{true, false}
use Rattle.gateway.specs.Gateways.{at_rings}
use Rattle.gateway.specs.Seats.{ledger_of}
use Rattle.gateway.proofs.DeliversLemmas.{begins}
use Rattle.gateway.proofs.Opening.{at_beginning}
use Rattle.gateway.proofs.gateway.Gateway.begin.Goals as goal

pub returns-clause-begins : goal.returns-clause-begins
returns-clause-begins c n wire =
    let new = at_rings (record c.self.inside {
      session = c.begin.new.self;
      waiting = c.new-self-inside.result;
      closed = false;
      deaf = 0;
      idle = 0;
      live = true;
    }) in
    begins new.front wire (ledger_of n new.seat)
    (rw c.begin.ensures (at_beginning c.self.inside.session.gateway))
    c.new-self-inside.ensures
