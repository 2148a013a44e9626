-- Look by look.
use Rattle.std.proofs.Common.{refl, arith, add-one, subst, Bool}
use Rattle.venue.specs.Stopping.{LooksForStop}
use Rattle.venue.specs.Watching.{watch_of}
use Rattle.venue.proofs.watch.wait_for.Goals as goal

pub loop-looks-preserved : goal.loop-looks-preserved
loop-looks-preserved g c =
    let missed = subst (λ (is : Bool). LooksForStop g.S.StopSign.looked is c.loop-looks.sign c.is_up.new.self)
    c.if-is_up.false c.is_up.ensures in
    rw add-one (watch_of c.loop-looks.sign c.loop-looks.pauses, c.loop-looks.invariant, missed, c.nap.ensures)

pub returns-then-is_up : goal.returns-then-is_up
returns-then-is_up g c =
    let seen = subst (λ (is : Bool). LooksForStop g.S.StopSign.looked is c.loop-looks.sign c.is_up.new.self)
    c.if-is_up.true c.is_up.ensures in
    (c.loop-looks.looks, watch_of c.loop-looks.sign c.loop-looks.pauses, c.loop-looks.invariant, seen, refl)

pub returns : goal.returns
returns g c =
    let ended = c.loop-looks-test.false in
    let within = c.loop-looks.auto.looks-end in
    (c.loop-looks.looks, omega (arith, ended, within), c.loop-looks.invariant)
