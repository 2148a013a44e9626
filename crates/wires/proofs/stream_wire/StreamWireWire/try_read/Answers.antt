-- What the stream gave is what the wire tells of it.
use Rattle.wires.proofs.StreamLemmas.{read_moved}
use Rattle.wires.proofs.stream_wire.StreamWireWire.try_read.Goals as goal

pub returns : goal.returns
returns g c =
    let gave = g.S.Stream.gave in
    let took = g.S.Stream.took in
    let wire = c.args.self.now in
    let stream = c.read.new.self in
    read_moved (gave wire.stream) (gave stream) (took wire.stream) (took stream) wire.counts c.count_read.new.self
    wire.quiet c.read.new.buf c.read.result c.read_answer-answer.result c.read.ensures.gives
    c.read.ensures.takes_none c.read_answer-answer.ensures c.count_read.ensures
