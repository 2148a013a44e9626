-- What the stream took is what the wire tells of it.
use Rattle.wires.proofs.StreamLemmas.{write_moved}
use Rattle.wires.proofs.stream_wire.StreamWireWire.try_write.Goals as goal

pub returns : goal.returns
returns g c =
    let gave = g.S.Stream.gave in
    let took = g.S.Stream.took in
    let wire = c.args.self.now in
    let stream = c.write.new.self in
    write_moved (gave wire.stream) (gave stream) (took wire.stream) (took stream) wire.counts c.count_write.new.self
    wire.quiet c.args.bytes.now c.write.result c.write_answer-answer.result c.write.ensures.takes
    c.write.ensures.gives_none c.write_answer-answer.ensures c.count_write.ensures
