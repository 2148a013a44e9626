-- The signals may be shared by all threads.
use Rattle.workers.proofs.signals.Signals.TheSendSync as signals
use Rattle.venue.proofs.listening.work_all.Goals as goal

pub run-requires-sync-S : goal.run-requires-sync-S
run-requires-sync-S g c κs within = record { shared = signals.the_sync.shared }
