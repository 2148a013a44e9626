-- What the definitions say of the match from here on, with what is told and read, is what they said at its start.
use Rattle.std.proofs.Common.{◌≡◌, ◌+◌, ◌*◌, ◌<◌, ◌≤◌, length}
use Rattle.std.specs.Vec.{vec_len, vec_capacity}
use Rattle.venue_model.specs.Orders.{leaves}
use Rattle.book.specs.Standing.{InRange}
use Rattle.book.specs.Commands.{AreLeft}
use Rattle.book.specs.Passes.{matching, Passed}
use Rattle.book.specs.Reads.{fills}
use Rattle.book.proofs.matching.sweep.Given as goal

abbrev pub invariant-fills : goal.invariant-fills
invariant-fills l = record {
  passed : Passed l.cause (matching l.fn.incoming l.fn.orders l.fn.out.items)
      (matching l.incoming l.orders l.out.items);
  in_range : InRange l.incoming;
  left : AreLeft l.orders l.fn.orders l.orders;
  same_room : vec_capacity l.out ≡ vec_capacity l.fn.out;
  more : vec_len l.out ≤ vec_len l.fn.out + 2 * length l.fn.orders;
  most : 0 < leaves l.incoming → vec_len l.out + 2 * length l.orders ≤ vec_len l.fn.out + 2 * length l.fn.orders;
  read : l.reads + fills l.incoming l.orders ≡ l.fn.reads + fills l.fn.incoming l.fn.orders;
}

abbrev pub decreases-fills : goal.decreases-fills
decreases-fills l = leaves l.incoming
