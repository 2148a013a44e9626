-- The wire below takes the first bytes where many wait, and the bytes put wait behind the others.
use Rattle.std.proofs.Common.{◌≢◌, ◌≤◌, [], length, refl, arith, rules}
use Rattle.wires.specs.declared.buffers.TheConstants.{BACKLOG}
use Rattle.wires.specs.declared.wire.TryWrite.TheVariants as write
use Rattle.wires.proofs.BufferLemmas.{taken_first, put_behind}
use Rattle.wires.proofs.buffers.Waiting.write.Goals.{else-many-via-then-many+else-eq, else-many-via-else-many}
use Rattle.wires.proofs.buffers.Waiting.write.Goals as goal

pub returns-clause-gathers : goal.returns-clause-gathers
returns-clause-gathers g c =
    let tells = g.W.Wire.tells in
    let step = c.else-many in
    let within : length step.self ≤ BACKLOG = omega arith in
    let room : length step.self ≢ BACKLOG = λ full. absurd (omega arith) in
    let behind = put_behind (tells c.args.wire.now) (tells step.wire) c.args.self.now step.self c.put.new.self
    c.args.bytes.now c.put.result within room (omega arith) c.put.ensures.count c.put.ensures.puts in
    elim step.branch [
      | else-many-via-then-many+else-eq w ↦
          let passes : w.send_some.result ≢ write.Failed = search rules in
          behind (rw (w.self-is, w.wire-is) (taken_first (tells c.args.wire.now) (tells w.send_some.new.wire)
          c.args.self.now w.send_some.new.self w.send_some.result (omega arith) w.send_some.ensures passes))
      | else-many-via-else-many w ↦
          behind (rw (w.self-is, w.wire-is) ([], ((λ few. (refl, refl)), λ many. absurd (omega arith)), refl))
    ]
