-- Behind the last turn nothing more is asked, and nothing is told.
use Rattle.std.proofs.Common.{refl, false}
use Rattle.workers.proofs.Rests.{rest_of}
use Rattle.workers.proofs.rest.Rest.goes_on.Goals as goal

pub returns-in_default-clause-rests : goal.returns-in_default-clause-rests
returns-in_default-clause-rests g c =
    let timed = c.time_behind-time.ensures in let counted = c.count.ensures in let same = c.in_default.is in
    rest_of _ c.args.outcome c.args.self.now c.time_behind-time.new.self c.count.new.self c.count.new.self
    c.time_behind-time.result c.count.result (record { is_woken = false; time = 0 }) c.count.new.self.pauses
    timed.told timed.others counted.pause counted.idle counted.announced counted.others (rw same (refl, (refl, refl)))
    (rw same refl) refl refl

pub returns-then-answer-clause-rests : goal.returns-then-answer-clause-rests
returns-then-answer-clause-rests g c =
    let timed = c.time_behind-time.ensures in let counted = c.count.ensures in
    let is = c.in-Some.is in let woken = c.if-answer.true in
    rest_of _ c.args.outcome c.args.self.now c.time_behind-time.new.self c.count.new.self _
    c.time_behind-time.result c.count.result c.pause_on-answer.result c.pause_on-answer.new.pauses
    timed.told timed.others counted.pause counted.idle counted.announced counted.others
    (rw is c.pause_on-answer.ensures) (rw (is, ← c.shy_after.ensures) c.tell_on.ensures) (rw woken refl) (rw woken refl)

pub returns-else-answer-clause-rests : goal.returns-else-answer-clause-rests
returns-else-answer-clause-rests g c =
    let timed = c.time_behind-time.ensures in let counted = c.count.ensures in
    let is = c.in-Some.is in let woken = c.if-answer.false in
    rest_of _ c.args.outcome c.args.self.now c.time_behind-time.new.self c.count.new.self _
    c.time_behind-time.result c.count.result c.pause_on-answer.result c.pause_on-answer.new.pauses
    timed.told timed.others counted.pause counted.idle counted.announced counted.others
    (rw is c.pause_on-answer.ensures) (rw (is, ← c.shy_after.ensures) c.tell_on.ensures) (rw woken refl) (rw woken refl)
