-- One log tells of all, and what the journaller keeps has all that the gateways have seen.
use Rattle.std.proofs.Common.{ap, subst}
use Rattle.venue_model.specs.Requests.{Limits}
use Rattle.journal.specs.Journals.{OneJournal}
use Rattle.ring_words.specs.At.{At}
use Rattle.ring_words.specs.declared.seats.Seats.{Seats}
use Rattle.stages.specs.Kept.{KeepsDone}
use Rattle.stages.proofs.Finishing.{finished}
use Rattle.stages.proofs.crew.Crew.close.Goals as goal

pub returns-clause-finished : goal.returns-clause-finished
returns-clause-finished g c =
    let honest = g.D.JournalDisk.honest in let tells = g.D.JournalDisk.tells in
    let j = c.self.inside.journaller in let given = c.end-journal.ensures.given in
    let seats : Seats Limits = record {
      gateways = c.args.gateways;
      unmarshal = c.end.result;
      journal = c.end-journal.result.0;
      process = c.end-process.result.0;
      marshal = c.end-2.result;
    } in
    let keeps = subst (λ (k : OneJournal g.row.D.Denot). honest k.disk → KeepsDone (tells k.disk) j.seat.who) given.1
    (subst (λ (s : At Limits). honest c.end-journal.result.1.disk → KeepsDone (tells c.end-journal.result.1.disk) s.who)
    given.0 c.end-journal.ensures.keeps) in
    rw (← c.self.view_is) (finished c.args.rings _ (honest j.journal.disk) (tells j.journal.disk) c.close.result seats
    (ap (λ (s : At Limits). s.who) c.end.ensures) (ap (λ (s : At Limits). s.who) given.0)
    (ap (λ (s : At Limits). s.who) c.end-process.ensures.given.0)
    (ap (λ (s : At Limits). s.who) c.end-2.ensures) c.close.ensures.log c.close.ensures.commands c.close.ensures.outputs
    keeps)
