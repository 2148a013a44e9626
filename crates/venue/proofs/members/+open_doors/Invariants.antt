use Rattle.std.specs.Prelude.{vec_len}
use Rattle.venue.proofs.members.+open_doors.Given as goal

abbrev pub decreases-open_doors : goal.decreases-open_doors
decreases-open_doors g l = vec_len l.seats
