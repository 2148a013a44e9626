-- Each write takes the first of the bytes that still wait.
use Rattle.wires.proofs.BufferLemmas.{sent_more}
use Rattle.wires.proofs.buffers.Waiting.send.Goals as goal

pub bytes-preserved : goal.bytes-preserved
bytes-preserved g c =
    let tells = g.W.Wire.tells in
    let so_far = c.bytes.invariant in
    let more = c.in-Put.ensures in
    sent_more c.args.self.now so_far.0 c.bytes.self more.0 c.send_some.new.self
    (tells c.args.wire.now) (tells c.bytes.wire) (tells c.send_some.new.wire) so_far.1 so_far.2 more.2 more.3
