-- What was opened is served.
use Rattle.running.proofs.RunningLemmas.{runs}
use Rattle.running.proofs.listening.run_listening.Goals as goal

pub returns-in-Ok-clause-journal : goal.returns-in-Ok-clause-journal
returns-in-Ok-clause-journal g c honest =
    let opens = c.in-Ok.ensures.opened honest in
    runs _ _ _ _ opens _ (c.listen-status.ensures.any_moment opens.is_honest)

pub returns-in-Ok-clause-served : goal.returns-in-Ok-clause-served
returns-in-Ok-clause-served g c = record {
  opened = c.in-Ok.disk;
  opens = c.in-Ok.ensures.opened;
  served = c.listen-status.ensures.seen;
}
