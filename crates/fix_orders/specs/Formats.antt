-- The formats of values and their ranges (docs/PROFILE.md, "Formats"). A value is its bytes.
use Rattle.std.specs.Prelude.{ℕ, zero, suc, ◌+◌, ◌/◌, ◌%◌, Bool, true, false, not, ◌&&◌, ◌||◌, nat_lt, nat_le, ◌==◌, if◌then◌else◌, List, [], ◌∷◌, ◌++◌, length, codes, filter, slice_index}
use Rattle.std.specs.List.{list_all, list_any, zip}
use Rattle.std.specs.Str.Parse.{digits_value}
use Rattle.fix_frame.specs.Ascii.{is_digit}
use Rattle.venue_model.specs.Spelling.{is_symbol_byte}
use Rattle.fix_orders.specs.declared.tables.Table.{Table}
use Rattle.fix_orders.specs.declared.tables.Table.TheVariants.{LimitOrder, MarketOrder, CancelRequest, ReplaceRequest}

-- a number: digits, one or more, the first not 0 unless it stands alone; of any length
abbrev pub is_number : List ℕ → Bool
is_number value =
    nat_lt 0 (length value) && list_all is_digit value && (length value == 1 || not (slice_index value 0 == 48))

-- the number that digits write
abbrev pub value_of : List ℕ → ℕ
value_of value = digits_value 10 value

-- one byte
abbrev pub is_byte : List ℕ → Bool
is_byte value = length value == 1

-- 1 to 8 bytes of A to Z, 0 to 9
abbrev pub is_symbol : List ℕ → Bool
is_symbol value = nat_lt 0 (length value) && nat_le (length value) 8 && list_all is_symbol_byte value

-- UTCTimestamp YYYYMMDD-HH:MM:SS, where 0 stands for any digit
abbrev pub time_shape : List ℕ
time_shape = codes "00000000-00:00:00"

-- a byte fits the shape's byte at its place
abbrev pub fits : ℕ × ℕ → Bool
fits (shape, byte) = if shape == 48 then is_digit byte else byte == shape

-- a time: digits and punctuation in their places; the calendar isn't checked
abbrev pub is_time : List ℕ → Bool
is_time value = length value == 17 && list_all fits (zip time_shape value)

-- a time as the number of its 14 digits
abbrev pub number_of_time : List ℕ → ℕ
number_of_time time = value_of (filter is_digit time)

-- the last so many digits of a number, with zeros in front
abbrev pub last_digits : ℕ → ℕ → List ℕ
last_digits zero n = []
last_digits (suc count) n = last_digits count (n / 10) ++ (48 + n % 10) ∷ []

-- the time of a number of 14 digits
unfoldable pub time_text : ℕ → List ℕ
time_text n =
    last_digits 8 (n / 1000000) ++ codes "-"
    ++ last_digits 2 (n / 10000) ++ codes ":" ++ last_digits 2 (n / 100) ++ codes ":" ++ last_digits 2 n

-- what the value of a tag has to be
pub data Format : Type 0 where
  -- a number from 1 to so much
  number_to : ℕ → Format
  -- one byte, one of these
  byte_of : List ℕ → Format
  symbol : Format
  time : Format
  any : Format

-- OrdType (40): 1, market, in the table of market orders, and 2, limit, in all others
abbrev pub ord_type_code : Table → List ℕ
ord_type_code LimitOrder = codes "2"
ord_type_code MarketOrder = codes "1"
ord_type_code CancelRequest = codes "2"
ord_type_code ReplaceRequest = codes "2"

-- the tags of order messages, by the table that a message is read by
abbrev pub format_of : Table → ℕ → Format
format_of table tag =
    if tag == 11 || tag == 41 then number_to 999999999999999  -- ClOrdID, OrigClOrdID
    else (if tag == 38 || tag == 44 then number_to 1000000  -- OrderQty, Price
    else (if tag == 40 then byte_of (ord_type_code table)  -- OrdType: limit, market
    else (if tag == 54 then byte_of (codes "12")  -- Side: buy, sell
    else (if tag == 55 then symbol  -- Symbol
    else (if tag == 59 then byte_of (codes "034")  -- TimeInForce: day, immediate or cancel, fill or kill
    else (if tag == 60 then time else any))))))  -- TransactTime

-- a number of at most 18 digits
abbrev pub is_short : Format → Bool
is_short (number_to most) = nat_lt most 1000000000000000000
is_short (byte_of bytes) = false
is_short symbol = false
is_short time = false
is_short any = false

-- the value has the format (else SessionRejectReason 6)
abbrev pub has_format : Format → List ℕ → Bool
has_format (number_to most) value = is_number value
has_format (byte_of bytes) value = is_byte value
has_format symbol value = is_symbol value
has_format time value = is_time value
has_format any value = true

-- a value of the format is in its range (else SessionRejectReason 5)
abbrev pub is_in_range : Format → List ℕ → Bool
is_in_range (number_to most) value = nat_le 1 (value_of value) && nat_le (value_of value) most
is_in_range (byte_of bytes) value = list_any (λ b. b == slice_index value 0) bytes
is_in_range symbol value = true
is_in_range time value = true
is_in_range any value = true
