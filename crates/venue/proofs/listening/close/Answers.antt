-- All seats are back, at their places and without claims.
use Rattle.std.proofs.Common.{arith}
use Rattle.venue.proofs.listening.close.Goals as goal

pub close-requires : goal.close-requires
close-requires g c = let back = c.requires.back in (
  omega arith,
  (
    c.requires.crew,
    (
      λ i s there. let is = back i s there in (is.0, is.1),
      (c.requires.count, λ i s there. (back i s there).2),
    ),
  ),
)
