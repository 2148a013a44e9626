-- The command that was read is that of the next entry: the book follows when it is done, and its outputs are left.
use Rattle.std.proofs.Common.{ap, rules, arith}
use Rattle.ring_words.specs.At.{At}
use Rattle.stages.proofs.Polls.{has_person}
use Rattle.stages.proofs.Processing.{Took, took, may_apply, behind}
use Rattle.stages.proofs.Putting.{works_on}
use Rattle.stages.proofs.processor.Processor.apply.Given as given
use Rattle.stages.proofs.processor.Processor.apply.Goals.{After-read_command-gateway}
use Rattle.stages.proofs.processor.Processor.apply.Goals as goal

read : (g : given.Over) (c : After-read_command-gateway g) → Took g.row.N c.args.rings.now.logic c.args.self.now.seat
    c.read_command-gateway.new.seat c.args.next c.read_command-gateway.result.0 c.read_command-gateway.result.1
read g c = let may = rw (← c.self.view_is) at c.requires.next in let read = c.read_command-gateway.ensures in
    rw (← c.self.view_is) (took may.known may.next read.command read.step)

pub apply-requires : goal.apply-requires
apply-requires g c = let may = may_apply (read g (goal.at.apply-requires g c).After-read_command-gateway) in
    let p = c.self.inside in record {
      sequence = search rules;
      behind = rw (← (rw (← c.self.view_is) at c.requires.next.all))
          (behind p.book.limits p.applied p.seat.who.seen p.book.state c.self.invariant.0.follows.state);
      gateway = (may.0, may.1);
      command = may.2;
      room = search rules;
    }

pub invariant_of-self : goal.invariant_of-self
invariant_of-self g c = let view = c.self.view_is in let done = c.apply.ensures in
    let read = rw (← view) at (read g (goal.at.invariant_of-self g c).After-read_command-gateway) in
    let working = works_on c.args.rings.now c.self.invariant.0 (rw (← view) at c.requires.at)
    (rw (← view) at c.requires.next) read done.state.limits done.state.state done.told in
    (working, omega arith, omega arith)

pub returns : goal.returns
returns g c = let took = read g (goal.at.returns g c).After-read_command-gateway in record {
  step = has_person c.args.self.now.seat c.read_command-gateway.new.seat _ took.view;
  read = (took.entry, took.at, ap (λ (s : At _). s.who) took.view);
  applied = search rules;
  working = (invariant_of-self g c).0;
}
