use Rattle.std.proofs.Common.{◌+◌, ◌*◌}
use Rattle.std.specs.Prelude.{vec_len}
use Rattle.bench.proofs.stages_rate.path.+fn-serve-join+arg3+serve.Given as goal

abbrev pub decreases-join+arg3 : goal.decreases-join+arg3
decreases-join+arg3 g l = 2 * vec_len l.gateways + 1

abbrev pub decreases-serve : goal.decreases-serve
decreases-serve g l = 2 * vec_len l.gateways
