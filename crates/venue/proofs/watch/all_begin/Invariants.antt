use Rattle.std.specs.Prelude.{◌≡◌, ◌⊎◌}
use Rattle.venue.specs.Watching.{Naps}
use Rattle.venue.proofs.watch.all_begin.Given as goal

abbrev pub invariant-loop-looks : goal.invariant-loop-looks
invariant-loop-looks g l = record {
  naps : Naps g.P.Pauses.paused l.looks l.fn.pauses l.pauses;
  awaited : (l.looks ≡ 0) ⊎ g.G.Signalling.awaited l.signals;
}
