-- What is left ahead is the last that the wire below gave.
use Rattle.wires.proofs.GatheringLemmas.{still_last}
use Rattle.wires.proofs.gathering.GatheringWire.read.Goals as goal

pub invariant_of-self-2 : goal.invariant_of-self-2
invariant_of-self-2 g c =
    let tells = g.W.Wire.tells in
    let inside = c.self.inside in (
      still_last (tells inside.below) (tells c.read.new.wire) inside.ahead c.read.new.self c.read.new.buf
          c.read.result c.read.ensures.hands_out c.self.invariant.0,
      c.self.invariant.1,
    )
