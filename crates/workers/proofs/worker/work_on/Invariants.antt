use Rattle.std.specs.Prelude.{◌<◌}
use Rattle.workers.specs.Resting.{moments}
use Rattle.workers.specs.Working.{TakesTurns, TurnAndRest, thread}
use Rattle.workers.proofs.worker.work_on.Given as goal

-- what a turn more comes to, it comes to from the first one on
abbrev pub invariant-loop-turns : goal.invariant-loop-turns
invariant-loop-turns g l = record {
  further : (x : g.row.W.Denot) → g.W.Worker.goes l.worker x → g.W.Worker.goes l.fn.worker x;
  goes : 0 < l.turns → g.W.Worker.goes l.fn.worker l.worker;
  turns : TakesTurns (TurnAndRest g.W.Worker.took
      (moments g.P.Pauses.paused g.P.Pauses.parked g.P.Pauses.snoozed g.P.Pauses.timed
      g.P.Pauses.asked_until g.P.Pauses.turned_shy)) l.turns
      (thread l.fn.worker l.fn.rest) (thread l.worker l.rest);
}
