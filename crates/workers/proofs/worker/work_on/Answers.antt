-- Turn by turn.
use Rattle.std.proofs.Common.{refl, arith}
use Rattle.workers.proofs.Turns.{one_more, the_last}
use Rattle.workers.proofs.worker.work_on.Goals as goal

pub loop-turns-init : goal.loop-turns-init
loop-turns-init g c =
    record { further = λ x goes. goes; goes = λ some. absurd (omega (arith, some)); turns = refl }

pub loop-turns-preserved : goal.loop-turns-preserved
loop-turns-preserved g c = let before = c.loop-turns.invariant in
    let turned = c.turn_at-outcome.ensures in let rested = c.goes_on.ensures in record {
      further = λ x goes. before.further x (g.W.Worker.further _ _ _ turned.goes goes);
      goes = λ some. before.further _ turned.goes;
      turns = one_more _ _ _ _ _ _ turned.took rested.rests rested.goes_on c.loop-turns.turns _ before.turns
          c.if-not-goes_on.false;
    }

pub returns-then-not-goes_on-clause-ends : goal.returns-then-not-goes_on-clause-ends
returns-then-not-goes_on-clause-ends g c =
    let turned = c.turn_at-outcome.ensures in let rested = c.goes_on.ensures in (
      _,
      _,
      c.loop-turns.invariant.turns,
      the_last _ _ _ _ _ _ turned.took rested.rests rested.goes_on c.if-not-goes_on.true,
    )

pub returns-then-say_stop-clause-ends : goal.returns-then-say_stop-clause-ends
returns-then-say_stop-clause-ends g c =
    let turned = c.turn_at-outcome.ensures in let rested = c.goes_on.ensures in
    let more = one_more _ _ _ _ _ _ turned.took rested.rests rested.goes_on c.loop-turns.turns _
    c.loop-turns.invariant.turns c.if-not-goes_on.false in
    (c.say_stop.ensures c.if-say_stop.true, (_, more))

pub returns-clause-ends : goal.returns-clause-ends
returns-clause-ends g c = let loop = c.loop-turns in
    let ended = c.loop-turns-test.false in let within = loop.auto.turns-end in
    (loop.turns, omega (arith, ended, within), loop.invariant.turns)
