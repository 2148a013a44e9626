-- The bytes that FIX tag=value names, and the tests of a byte.
use Rattle.std.specs.Prelude.{ℕ, Bool, ◌&&◌, nat_le}

-- the byte 01 that ends each field (FIX 4.4, volume 1, "Field Delimiter")
abbrev pub soh : ℕ
soh = 1

-- the byte between a field's tag and its value
abbrev pub equals_sign : ℕ
equals_sign = 61

-- 0 to 9
abbrev pub is_digit : ℕ → Bool
is_digit b = nat_le 48 b && nat_le b 57
