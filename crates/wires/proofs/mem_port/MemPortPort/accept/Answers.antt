-- The client that came is the last of those to come, over whose wires nothing has moved; and one more has come.
use Rattle.std.proofs.Common.{refl}
use Rattle.wires.proofs.PortLemmas.{one_more}
use Rattle.wires.specs.MemWires.{told_memory}
use Rattle.wires.proofs.mem_port.MemPortPort.accept.Goals as goal

pub returns-clause-tells : goal.returns-clause-tells
returns-clause-tells c =
    let more = one_more told_memory c.self.inside.came c.self.inside.coming.items c.pop.new.self.items c.in_ok-wire.wire
    c.self.invariant.0
    c.in_ok-wire.ensures.items in
    rw (← c.self.view_is) (rw more refl)
