use Rattle.std.proofs.Common.{◌≡◌, ◌*◌, ◌<◌, ◌^◌, length, take}
use Rattle.std.specs.List.{AllByRecursion, flat_map}
use Rattle.book.specs.Rows.{number_bytes}
use Rattle.book.proofs.snapshot.head.names_of.Given as goal

abbrev pub invariant-loop-place : goal.invariant-loop-place
invariant-loop-place l = record {
  long : length l.names ≡ 8;
  small : AllByRecursion (λ name. name < 2 ^ 64) l.names;
  so_far : flat_map (number_bytes 8) (take l.place l.names) ≡ take (8 * l.place) l.bytes;
}
