use Rattle.replay.proofs.Reported.{on_ok}
use Rattle.replay.proofs.reporting.report_book.Goals as goal

pub returns-in-Ok-clause-printed : goal.returns-in-Ok-clause-printed
returns-in-Ok-clause-printed g c done = record {
  recovered = c.in-Ok.recovered;
  recovers = c.in-Ok.ensures.recovered;
  whole = c.in-Ok.ensures.whole;
  printed = on_ok _ (c.status_of.ensures.whole done) c.write_book.ensures;
}
