-- The sizes that a ring may have.
use Rattle.std.specs.Prelude.{ℕ, Bool, ◌&&◌, nat_le}
use Rattle.std.specs.Int.{is_power_of_two}

-- a power of two from 2 to 4,096
abbrev pub ring_size : ℕ → Bool
ring_size n = is_power_of_two n && (nat_le 2 n && nat_le n 4096)
