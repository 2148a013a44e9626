use Rattle.std.proofs.Common.{sym}
use Rattle.replay.proofs.Looking.{only-reads}
use Rattle.replay.proofs.Reported.{reports-of}
use Rattle.replay.proofs.running.report_file.Goals as goal

pub returns-in-Ok-clause-journal : goal.returns-in-Ok-clause-journal
returns-in-Ok-clause-journal g c honest =
    let opened = c.in-Ok.ensures.opened honest in
    only-reads _ _ _ _ _ opened.0 opened.1 c.report_subject-status.ensures.read

pub returns-in-Ok-clause-printed : goal.returns-in-Ok-clause-printed
returns-in-Ok-clause-printed g c done = reports-of _ _ _ _ _ _ _ _
    (λ honest. (c.in-Ok.ensures.opened honest).0)
    (λ honest. sym (c.in-Ok.ensures.opened honest).1.names.same)
    (c.report_subject-status.ensures.printed done)
