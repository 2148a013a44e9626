-- Times and their numbers.
use Rattle.std.proofs.Common.{◌≡◌, ◌≢◌, ℕ, zero, suc, ◌+◌, ◌/◌, ◌%◌, ◌≤◌, true, not, IsTrue, List, [], ◌∷◌, ◌++◌}
use Rattle.std.proofs.Common.{length, length-set, set, codes, ap}
use Rattle.std.specs.List.{list_all, zip}
use Rattle.std.proofs.Common.{sym, ◌∙◌, refl, arith, ◌==◌}
use Rattle.std.proofs.lemmas.Bool.{and_parts}
use Rattle.std.proofs.lemmas.Bool.Decides.{nat_tests}
use Rattle.std.proofs.lemmas.List.{take_all}
use Rattle.fix_frame.specs.Grammar.{LacksSoh}
use Rattle.fix_orders.specs.Formats.{last_digits, time_shape, fits, is_time, time_text}
use Rattle.fix_orders.specs.Writing.{Puts}
use Rattle.fix_orders.specs.WritingLaws.{puts_join, puts_byte}

-- a time has 17 bytes
pub length_time : (time : List ℕ) → IsTrue (is_time time) → length time ≡ 17
length_time time is = let long : (length time == 17) ≡ true = (and_parts _ _ is).0 in grind (arith, nat_tests, long)

-- the last two digits of a number
pub puts_two : (a : List ℕ) (i n : ℕ) → i + 2 ≤ length a
    → Puts a (set (set a i (48 + n / 10 % 10)) (i + 1) (48 + n % 10)) i (i + 2) (last_digits 2 n)
puts_two a i n room =
    let first = puts_byte a i (48 + n / 10 % 10) (omega arith) in
    let last = puts_byte (set a i (48 + n / 10 % 10)) (i + 1) (48 + n % 10)
    (omega (arith, length-set a i (48 + n / 10 % 10))) in
    let end : i + 1 + 1 ≡ i + 2 = omega arith in
    rw end at (puts_join first last)

-- eight of them are four times two
eight_of : (m a b c : ℕ) → m / 10 / 10 ≡ a → a / 10 / 10 ≡ b → b / 10 / 10 ≡ c
    → last_digits 8 m ≡ last_digits 2 c ++ last_digits 2 b ++ last_digits 2 a ++ last_digits 2 m
eight_of m a b c ma ab bc = rw (ma, ab, bc) refl

eight_digits : (n : ℕ) → last_digits 8 (n / 1000000)
    ≡ last_digits 2 (n / 1000000000000) ++ last_digits 2 (n / 10000000000) ++ last_digits 2 (n / 100000000)
    ++ last_digits 2 (n / 1000000)
eight_digits n = eight_of (n / 1000000) (n / 100000000) (n / 10000000000) (n / 1000000000000) (omega arith)
    (omega arith) (omega arith)

-- so a time is written two digits at once
pub time_parts : (n : ℕ) → last_digits 2 (n / 1000000000000) ++ last_digits 2 (n / 10000000000) ++ last_digits 2
    (n / 100000000)
    ++ last_digits 2 (n / 1000000) ++ codes "-" ++ last_digits 2 (n / 10000) ++ codes ":" ++ last_digits 2 (n / 100)
    ++ codes ":" ++ last_digits 2 n
    ≡ time_text n
unfolding time_text
time_parts n =
    ap (λ date. date ++ codes "-" ++ last_digits 2 (n / 10000) ++ codes ":" ++ last_digits 2 (n / 100)
    ++ codes ":" ++ last_digits 2 n)
    (sym (eight_digits n))

-- what was written is the whole buffer
pub puts_all : {a b : List ℕ} {j : ℕ} {bytes : List ℕ} → Puts a b 0 j bytes → length b ≤ j → b ≡ bytes
puts_all {a} {b} {j} {bytes} puts whole = sym (take_all j b whole) ∙ puts.written

-- a byte that fits another one than SOH isn't SOH
fits_lacks : (s b : ℕ) → not (s == 1) ≡ true → fits (s, b) ≡ true → b ≢ 1
fits_lacks s zero other fit = λ e. absurd (omega (arith, e))
fits_lacks s (suc zero) other fit = absurd (grind (arith, nat_tests))
fits_lacks s (suc (suc b)) other fit = λ e. absurd (omega (arith, e))

-- so the bytes that fit a shape without SOH lack SOH
shaped_lacks : (shape value : List ℕ) → length value ≡ length shape → list_all (λ s. not (s == 1)) shape ≡ true
    → list_all fits (zip shape value) ≡ true → LacksSoh value
shaped_lacks shape [] long other fit = tt
shaped_lacks [] (b ∷ value) long other fit = absurd (omega (arith, long))
shaped_lacks (s ∷ shape) (b ∷ value) long other fit =
    let first = and_parts (not (s == 1)) (list_all (λ s. not (s == 1)) shape) other in
    let here = and_parts (fits (s, b)) (list_all fits (zip shape value)) fit in
    (fits_lacks s b first.0 here.0, shaped_lacks shape value (omega (arith, long)) first.1 here.1)

-- no byte of a time is SOH
pub time_lacks : (time : List ℕ) → IsTrue (is_time time) → LacksSoh time
time_lacks time is =
    shaped_lacks time_shape time (length_time time is) refl (and_parts (length time == 17) _ is).1
