-- The signals may be shared by all threads.
use Rattle.workers.proofs.signals.Signals.TheSendSync as signals
use Rattle.ring_tests.proofs.tests.side_by_side.run_six.Goals as goal

pub run-requires-sync-S : goal.run-requires-sync-S
run-requires-sync-S g c κs within = record { shared = signals.the_sync.shared }
