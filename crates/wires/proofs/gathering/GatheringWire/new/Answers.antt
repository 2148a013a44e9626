-- Nothing is held ahead yet.
use Rattle.std.proofs.Common.{sym, arith, refl}
use Rattle.wires.specs.WireLaws.{grown-nil}
use Rattle.wires.proofs.GatheringLemmas.{fresh_told}
use Rattle.wires.proofs.gathering.GatheringWire.new.Goals as goal

pub invariant_of-result : goal.invariant_of-result
invariant_of-result g c =
    let gave = (g.W.Wire.tells c.args.below).gave in
    ((gave, rw c.in-Ok-Ok.ensures (sym (grown-nil gave))), (omega arith, λ whole. omega arith))

pub returns-clause-fresh : goal.returns-clause-fresh
returns-clause-fresh g c =
    let told = g.W.Wire.tells c.args.below in record {
      ahead = c.in-Ok-Ok.ensures;
      waiting = c.in-Ok-Ok.ensures';
      skipped = refl;
      late = refl;
      broken = refl;
      told = fresh_told told.gave told.took c.in-Ok-Ok.ahead c.in-Ok-Ok.waiting c.new-3.result c.in-Ok-Ok.ensures
          c.in-Ok-Ok.ensures' c.new-3.ensures;
    }
