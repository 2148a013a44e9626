-- Two places are one only where row and word are: rows have fixed lengths, and a row that is in use has one sequence.
use Rattle.std.proofs.Common.{◌≡◌, ◌≢◌, ℕ, ◌+◌, ◌*◌, ◌%◌, ◌<◌, ◌≤◌, sym, arith, mod-lt}
use native.Mathlib.Decide.{dec_le}
use Rattle.atomic_table.proofs.Lists.{one_turn}
use Rattle.ring_words.specs.Places.{in_row, table_words}

pub same_row : (n s t i k : ℕ) → i < 64 → k < 64 → in_row n s i ≡ in_row n t k → (s % n ≡ t % n) × (i ≡ k)
same_row n s t i k a b e = let x : ℕ = s % n in
    let y : ℕ = t % n in
    let e' : 128 + 64 * x + i ≡ 128 + 64 * y + k = e in
    ((let g : x ≡ y = omega arith in g), (let g : i ≡ k = omega arith in g))

-- two sequences of one window, in one row, are one
pub one_window : (t a b n : ℕ) → t ≤ a → t ≤ b → a < t + n → b < t + n → a % n ≡ b % n → a ≡ b
one_window t a b n ta tb an bn e = by_order (dec_le a b) where
  by_order : Dec (a ≤ b) → a ≡ b
  by_order (yes le) = one_turn a b n le (omega arith) e
  by_order (no gt) = sym (one_turn b a n (omega arith) (omega arith) (sym e))

pub row_inside : (n m s i : ℕ) → 0 < n → i < 64 → in_row n s i < table_words n m
row_inside n m s i pos small = let x : ℕ = s % n in let lt : x < n = mod-lt s pos in omega arith

-- a control word is no word of a row
pub no_control : (n s i k : ℕ) → k < 128 → in_row n s i ≢ k
no_control n s i k small e = let x : ℕ = s % n in let e' : 128 + 64 * x + i ≡ k = e in omega arith
