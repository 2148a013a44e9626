use Rattle.std.proofs.Common.{◌≡◌, true, take, min}
use Rattle.std.specs.List.{list_all}
use Rattle.fix_frame.specs.Ascii.{is_digit}
use Rattle.fix_orders.specs.Formats.{value_of}
use Rattle.fix_orders.specs.declared.number.TheConstants.{MOST}
use Rattle.fix_orders.proofs.number.read_number.Given as goal

abbrev pub invariant-loop-byte : goal.invariant-loop-byte
invariant-loop-byte l = record {
  digits : list_all is_digit (take l.byte-index l.value) ≡ true;
  so_far : l.number ≡ min (value_of (take l.byte-index l.value)) MOST;
}
