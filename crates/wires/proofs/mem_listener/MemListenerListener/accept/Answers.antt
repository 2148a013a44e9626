-- The connection that came is the last of those to come, over which nothing has moved; and one more has come.
use Rattle.std.proofs.Common.{refl}
use Rattle.wires.proofs.PortLemmas.{one_more}
use Rattle.wires.specs.Listeners.{as_it_came}
use Rattle.wires.specs.MemStreams.{gave_of, took_of}
use Rattle.wires.proofs.mem_listener.MemListenerListener.accept.Goals as goal

pub returns-clause-tells : goal.returns-clause-tells
returns-clause-tells c =
    let more = one_more (as_it_came gave_of took_of) c.self.inside.came c.self.inside.coming.items
    c.pop.new.self.items c.in_ok-stream.stream
    c.self.invariant.0
    c.in_ok-stream.ensures.items in
    rw (← c.self.view_is) (rw more refl)
