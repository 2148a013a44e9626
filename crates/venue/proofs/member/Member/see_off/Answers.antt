-- The client that leaves was gone on with.
use Rattle.std.proofs.Common.{refl}
use Rattle.wires.specs.Clients.{ShutsLast}
use Rattle.venue.proofs.MemberTurns.{still_here, is_gone}
use Rattle.venue.proofs.member.Member.see_off.Goals as goal

pub returns-in_default : goal.returns-in_default
returns-in_default g c = let old = c.args.self.now in let w = g.W.ClientWire in
    let so = still_here g.W.Wire.tells w.flushed (ShutsLast w.holds w.failed w.was_shut) old.rings.now old.gateway
    old.visitor.value c.see_off.new.self (g.X.Port.tells old.port.value)
    (rw c.deref_mut.ensures.value at c.in_default.ensures) in
    record { goes = so.goes; off = so.off; same = so.same; turns = refl }

pub returns : goal.returns
returns g c = let old = c.args.self.now in let w = g.W.ClientWire in
    let gone = is_gone g.W.Wire.tells w.flushed (ShutsLast w.holds w.failed w.was_shut) old.rings.now old.gateway
    old.visitor.value c.see_off.new.self c.in-Some.wire (g.X.Port.tells old.port.value)
    (g.X.Port.tells c.take_back.new.self) (rw c.deref_mut.ensures.value at c.in-Some.ensures)
    (rw c.deref_mut-2.ensures.value at c.take_back.ensures) in
    record { goes = gone.goes; off = gone.off; same = gone.same; turns = refl }
