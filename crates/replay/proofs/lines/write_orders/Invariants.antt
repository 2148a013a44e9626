use Rattle.std.proofs.Common.{◌≤◌, take}
use Rattle.std.specs.List.{flat_map}
use Rattle.std.specs.List.Sorted.{IsPermutation}
use Rattle.std.specs.Io.KnownBytes.{Appends}
use Rattle.book.specs.Listing.{listing}
use Rattle.book.proofs.OneByOne.{IsAt}
use Rattle.replay.specs.Lines.{order_line}
use Rattle.replay.proofs.lines.write_orders.Given as goal

abbrev pub invariant-loop : goal.invariant-loop
invariant-loop g l = record {
  at : IsAt (listing l.book.limits.symbols l.book.state.orders) l.counter l.from;
  written : Appends (g.W.Write.contents l.fn.out) (g.W.Write.contents l.out)
      (flat_map order_line (take l.counter (listing l.book.limits.symbols l.book.state.orders)));
  once : 1 ≤ l.counter → IsPermutation l.book.state.orders (listing l.book.limits.symbols l.book.state.orders);
}
