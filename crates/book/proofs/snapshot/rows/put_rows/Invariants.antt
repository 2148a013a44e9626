use Rattle.std.proofs.Common.{◌≡◌, ◌+◌, ◌*◌, length}
use Rattle.book.proofs.RestoredOrders.{SoFar}
use Rattle.book.proofs.snapshot.rows.put_rows.Given as goal

abbrev pub invariant-loop : goal.invariant-loop
invariant-loop l = record {
  so_far : SoFar l.symbols l.head.greatest l.head.commands l.bytes l.rest l.counter l.last l.orders;
  left : length l.rest + 47 * l.counter ≡ length l.bytes;
}
