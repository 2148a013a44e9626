-- The signals may be shared by all threads.
use Rattle.workers.proofs.signals.Signals.TheSendSync as signals
use Rattle.bench.proofs.stages_rate.path.Path.run_on_threads.Goals as goal

pub run-crew-requires-sync-S : goal.run-crew-requires-sync-S
run-crew-requires-sync-S g c κs within = record { shared = signals.the_sync.shared }
