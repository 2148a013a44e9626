use Rattle.std.proofs.Common.{◌≡◌, ◌+◌, ◌*◌, take}
use Rattle.fix_orders.specs.Writing.{Puts}
use Rattle.book.specs.Listing.{listing}
use Rattle.book.specs.Rows.{orders_bytes}
use Rattle.book.proofs.OneByOne.{IsAt}
use Rattle.book.proofs.book.Book.put_orders.Given as goal

abbrev pub invariant-loop : goal.invariant-loop
invariant-loop l = record {
  at : IsAt (listing l.self.limits.symbols l.self.state.orders) l.counter l.from;
  puts : Puts l.fn.buf l.buf l.at l.upto
      (orders_bytes l.self.limits.symbols (take l.counter (listing l.self.limits.symbols l.self.state.orders)));
  long : l.upto ≡ l.at + 47 * l.counter;
}
