use Rattle.venue.specs.Watching.{LooksInVain, watch_of}
use Rattle.venue.proofs.watch.wait_for.Given as goal

abbrev pub invariant-loop-looks : goal.invariant-loop-looks
invariant-loop-looks g l = LooksInVain g.P.Pauses.paused g.S.StopSign.looked l.looks
    (watch_of l.fn.sign l.fn.pauses) (watch_of l.sign l.pauses)
