-- Numbers in decimal digits.
use Rattle.std.proofs.Common.{◌≡◌, ℕ, ◌+◌, ◌-◌, ◌*◌, ◌<◌, ◌≤◌, ◌^◌, List, [], ◌∷◌, length, take, get_or, true, ap}
use Rattle.std.proofs.Common.{◌∙◌, arith}
use Rattle.std.specs.List.{list_all}
use Rattle.std.specs.Char.{digit_value}
use Rattle.std.specs.Str.Parse.{AllDigits, digits_value}
use Rattle.std.proofs.lemmas.Bool.{and_parts}
use Rattle.std.proofs.lemmas.Str.Parse.{IsNumeralModel, numerals_by_value, tells_digits, digits_value_short}
use Rattle.std.proofs.lemmas.Str.Parse.{digits_value-take-le, digit_at}
use Rattle.std.proofs.lemmas.Int.Digits.{digits_value_more}
use Rattle.std.proofs.lemmas.Bool.Decides.{nat_tests}
use Rattle.fix_frame.specs.Ascii.{is_digit}

pub own : IsNumeralModel (AllDigits 10) (digits_value 10)
own = numerals_by_value _ tells_digits

-- the value of a digit
pub digit_is : (b : ℕ) → is_digit b ≡ true → (48 ≤ b) × (b ≤ 57)
digit_is b is = grind (arith, nat_tests)

value_of_digit : (b : ℕ) → is_digit b ≡ true → digit_value b ≡ b - 48
value_of_digit b is = let d = digit_is b is in grind (arith, nat_tests, d)

pub all_digits : (text : List ℕ) → list_all is_digit text ≡ true → AllDigits 10 text
all_digits [] is = tt
all_digits (b ∷ text) is =
    let p = and_parts _ _ is in
    let d = digit_is b p.0 in
    let v = value_of_digit b p.0 in
    (omega (arith, v, d), all_digits text p.1)

-- the digits as far as the next, and what that adds
pub more_digits : (text : List ℕ) (i : ℕ) → list_all is_digit text ≡ true → i < length text →
    (digits_value 10 (take (i + 1) text) ≡ digits_value 10 (take i text) * 10 + (get_or text i 0 - 48)) ×
    (48 ≤ get_or text i 0) × (get_or text i 0 ≤ 57)
more_digits text i is within =
    let d = digit_at text i (all_digits text is) within in
    let v : digit_value (get_or text i 0) ≡ get_or text i 0 - 48 = grind (arith, nat_tests, d) in
    (digits_value_more 10 text i within ∙ ap (λ k. digits_value 10 (take i text) * 10 + k) v, d.0, d.1)

-- nine digits are below a thousand millions, and so are fewer
pub all_small : (text : List ℕ) → length text ≤ 9 → list_all is_digit text ≡ true → digits_value 10 text < 10 ^ 9
all_small text few is = digits_value_short own text 9 (all_digits text is) few

pub front_small : (text : List ℕ) (i : ℕ) → length text ≤ 9 → list_all is_digit text ≡ true →
    digits_value 10 (take i text) < 10 ^ 9
front_small text i few is = omega (arith, digits_value-take-le 10 text i (omega arith), all_small text few is)
