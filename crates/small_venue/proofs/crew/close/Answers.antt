-- The gateways' seats are at the rings, each with its number, and without claims.
use Rattle.std.proofs.Common.{arith}
use Rattle.small_venue.proofs.Seats.{are_gateways}
use Rattle.small_venue.proofs.crew.close.Goals as goal

pub close-requires : goal.close-requires
close-requires g c = (
  omega arith,
  (
    rw c.into_inner.ensures c.requires.stages,
    (
      are_gateways c.args.rings c.args.gateways.items c.requires.seats,
      (c.requires.count, λ i s there. (c.requires.seats i s there).claims),
    ),
  ),
)
