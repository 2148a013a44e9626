-- Where the wire is broken nothing moves; else it reads.
use Rattle.std.proofs.Common.{refl, sym, subst, ap, ◌∙◌}
use Rattle.wires.specs.declared.wire.TryRead.TheVariants.{Failed}
use Rattle.wires.specs.GatheringWires.{Gathering, told_gathering}
use Rattle.wires.specs.Counting.{CountsRead}
use Rattle.wires.specs.Wires.{AreLast, ReadTells}
use Rattle.wires.proofs.GatheringLemmas.{reading_told}
use Rattle.wires.proofs.gathering.GatheringWireWire.try_read.Goals.{then-self, else-self}
use Rattle.wires.proofs.gathering.GatheringWireWire.try_read.Goals as goal

pub returns-clause-tells : goal.returns-clause-tells
returns-clause-tells g c =
    let tells = g.W.Wire.tells in
    let old = c.args.self.now in
    let new = c.count_read.new.self in
    elim c.if-self.branch [
      | then-self w ↦
          let same = c.self-2.view_is ∙ w.self-is in
          let counted = rw (w.answer-is, ap (λ (x : Gathering _). x.counts) same) at c.count_read.ensures in
          rw w.answer-is (subst (λ (x : Gathering _). ReadTells (told_gathering tells old)
          (told_gathering tells (record x { counts = new })) c.if-self.buf Failed) (sym same)
          (counted.0, rw counted.1 refl))
      | else-self w ↦
          let is = c.self-2.view_is ∙ w.self-is in
          let mid = w.read-answer.new.self in
          let counted = subst (λ (x : Gathering _). CountsRead x.counts new w.read-answer.result) is
          (rw w.answer-is at c.count_read.ensures) in
          let last = subst (λ (x : Gathering _). AreLast (tells x.below).gave x.ahead) c.self.view_is c.self.invariant.0
          in
          rw (w.answer-is, w.buf-is) (subst (λ (x : Gathering _). ReadTells (told_gathering tells old)
          (told_gathering tells (record x { counts = new })) w.read-answer.new.buf w.read-answer.result) (sym is)
          (reading_told tells old mid new w.read-answer.new.buf w.read-answer.result w.read-answer.ensures.reads
          w.read-answer.ensures.count w.read-answer.ensures.others last counted))
    ]
