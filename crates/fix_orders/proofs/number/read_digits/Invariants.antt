-- So far the number is that of the digits in front.
use Rattle.std.proofs.Common.{◌≡◌, take}
use Rattle.fix_orders.specs.Formats.{value_of}
use Rattle.fix_orders.proofs.number.read_digits.Given as goal

abbrev pub invariant-loop-byte : goal.invariant-loop-byte
invariant-loop-byte l = l.number ≡ value_of (take l.byte-index l.digits)
