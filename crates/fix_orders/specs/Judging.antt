-- Private: values and formats as the code has them.
use Rattle.std.specs.Prelude.{ℕ, ◌<◌, if◌then◌else◌, List}
use Rattle.fix_orders.specs.declared.formats.Format.{Format as FormatRead}
use Rattle.fix_orders.specs.declared.formats.Format.TheVariants.{NumberTo, ByteOf, Symbol, Time}
use Rattle.fix_orders.specs.declared.formats.JudgedValue.{JudgedValue}
use Rattle.fix_orders.specs.declared.formats.JudgedValue.TheVariants.{Right, WrongFormat, OutOfRange}
use Rattle.fix_orders.specs.declared.number.TheConstants.{MOST}
use Rattle.fix_orders.specs.Formats.{Format, has_format, is_in_range}
use Rattle.fix_orders.specs.Formats.Format.{number_to, byte_of, symbol, time}

-- a format of the code's
abbrev pub as_format : FormatRead → Format
as_format (NumberTo most) = number_to most
as_format (ByteOf bytes) = byte_of bytes.now
as_format Symbol = symbol
as_format Time = time

-- its numbers are below what the code reads apart
abbrev pub IsBounded : FormatRead → Type 0
IsBounded (NumberTo most) = most < MOST
IsBounded (ByteOf bytes) = Unit {0}
IsBounded Symbol = Unit {0}
IsBounded Time = Unit {0}

-- what a value is by a format
abbrev pub judged_value : Format → List ℕ → JudgedValue
judged_value format value = if has_format format value then (if is_in_range format value then Right else OutOfRange)
    else WrongFormat
