use Rattle.std.proofs.Common.{◌≡◌, ◌+◌, ◌*◌, take}
use Rattle.std.specs.List.{flat_map}
use Rattle.fix_orders.specs.Writing.{Puts}
use Rattle.book.specs.Rows.{number_bytes}
use Rattle.book.proofs.book.Book.put_greatest.Given as goal

abbrev pub invariant-loop-name : goal.invariant-loop-name
invariant-loop-name l = record {
  puts : Puts l.fn.buf l.buf l.at l.end (flat_map (number_bytes 8) (take l.name-index l.name-items));
  long : l.end ≡ l.at + 8 * l.name-index;
}
