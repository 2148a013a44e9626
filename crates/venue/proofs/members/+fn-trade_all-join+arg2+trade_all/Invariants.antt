use Rattle.std.proofs.Common.{◌+◌, ◌*◌}
use Rattle.std.specs.Prelude.{vec_len}
use Rattle.venue.proofs.members.+fn-trade_all-join+arg2+trade_all.Given as goal

abbrev pub decreases-join+arg2 : goal.decreases-join+arg2
decreases-join+arg2 g l = 2 * vec_len l.others.doors + 1

abbrev pub decreases-trade_all : goal.decreases-trade_all
decreases-trade_all g l = 2 * vec_len l.members.doors
