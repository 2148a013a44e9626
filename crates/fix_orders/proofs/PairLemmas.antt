-- The table of the numbers below 100, in two digits each.
use Rattle.std.proofs.Common.{◌≡◌, ℕ, zero, suc, ◌+◌, ◌*◌, ◌/◌, ◌%◌, ◌<◌, ◌≤◌, Bool, true, ◌&&◌, ◌==◌}
use Rattle.std.proofs.Common.{List, length, get_or, set, refl, arith}
use Rattle.std.specs.Bool.{Decides}
use Rattle.std.proofs.lemmas.Bool.Decides.{Decides-and, Decides-below_and, Decides-eqb}
use Rattle.fix_orders.specs.declared.put.TheConstants.{PAIRS}
use Rattle.fix_orders.specs.Formats.{last_digits}
use Rattle.fix_orders.specs.Writing.{Puts}
use Rattle.fix_orders.proofs.TimeLemmas.{puts_two}

-- the digits of a number stand at its place
abbrev IsPair : ℕ → Type 0
IsPair k = (get_or PAIRS (2 * k) 0 ≡ 48 + k / 10) × (get_or PAIRS (2 * k + 1) 0 ≡ 48 + k % 10)

abbrev is_pair : ℕ → Bool
is_pair k = get_or PAIRS (2 * k) 0 == 48 + k / 10 && get_or PAIRS (2 * k + 1) 0 == 48 + k % 10

-- those of all numbers below this one do
are_pairs : ℕ → Bool
are_pairs zero = true
are_pairs (suc k) = is_pair k && are_pairs k

decides : (k : ℕ) → Decides (is_pair k) (IsPair k)
decides k =
    Decides-and (get_or PAIRS (2 * k) 0 == 48 + k / 10) (get_or PAIRS (2 * k + 1) 0 == 48 + k % 10)
    (Decides-eqb (get_or PAIRS (2 * k) 0) (48 + k / 10)) (Decides-eqb (get_or PAIRS (2 * k + 1) 0) (48 + k % 10))

all_pairs : are_pairs 100 ≡ true
unfolding are_pairs
all_pairs = refl

pair : (k : ℕ) → k < 100 → IsPair k
unfolding are_pairs
pair = (Decides-below_and is_pair IsPair are_pairs decides refl (λ _. refl) 100).0 all_pairs

-- the last two digits of a number, out of the table
pub puts_pair : (a : List ℕ) (i n : ℕ) → i + 2 ≤ length a
    → Puts a (set (set a i (get_or PAIRS (2 * (n % 100)) 0)) (i + 1) (get_or PAIRS (2 * (n % 100) + 1) 0)) i (i + 2)
    (last_digits 2 n)
puts_pair a i n room =
    let digits = pair (n % 100) (omega arith) in
    let tens : get_or PAIRS (2 * (n % 100)) 0 ≡ 48 + n / 10 % 10 = omega (arith, digits.0) in
    let ones : get_or PAIRS (2 * (n % 100) + 1) 0 ≡ 48 + n % 10 = omega (arith, digits.1) in
    rw (tens, ones) (puts_two a i n room)
