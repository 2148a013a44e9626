-- Numbers, digit by digit.
use Rattle.std.proofs.Common.{◌≡◌, ℕ, ◌+◌, ◌-◌, ◌*◌, ◌<◌, ◌≤◌, Bool, true, false, cond, List, [], ◌∷◌, length, take}
use Rattle.std.proofs.Common.{get_or, min, ap, ◌∙◌, refl, arith}
use Rattle.std.specs.List.{list_all, filter}
use Rattle.std.specs.Char.{digit_value}
use Rattle.std.proofs.lemmas.Bool.{and_parts, and_from}
use Rattle.std.proofs.lemmas.Bool.Decides.{nat_tests}
use Rattle.std.proofs.lemmas.Int.Digits.{digits_value_push}
use Rattle.std.proofs.lemmas.List.{take_more}
use Rattle.std.proofs.lemmas.List.Folds.{list_all_more, list_all_at}
use Rattle.std.proofs.lemmas.Str.{digit_value_digit}
use Rattle.fix_frame.specs.Ascii.{is_digit}
use Rattle.fix_orders.specs.Formats.{value_of}
use Rattle.fix_orders.specs.declared.number.TheConstants.{MOST}

-- a digit is 48 to 57, and its value is what it is above 48
pub digit_range : (b : ℕ) → is_digit b ≡ true → (48 ≤ b) × (b ≤ 57)
digit_range b is = grind (arith, nat_tests)

pub digit_is : (b : ℕ) → is_digit b ≡ true → digit_value b + 48 ≡ b
digit_is b is = digit_value_digit b (digit_range b is)

-- one more digit of a number that is cut at the most
pub capped : (v n b d : ℕ) → n ≡ min v MOST → d + 48 ≡ b → min (n * 10 + (b - 48)) MOST ≡ min (v * 10 + d) MOST
capped v n b d cut digit = omega arith

-- digits alone are all kept
pub filter_digits : (bytes : List ℕ) → list_all is_digit bytes ≡ true → filter is_digit bytes ≡ bytes
filter_digits [] all = refl
filter_digits (b ∷ bytes) all =
    let parts = and_parts (is_digit b) (list_all is_digit bytes) all in
    ap (λ r. cond r (b ∷ filter is_digit bytes) (filter is_digit bytes)) parts.0
    ∙ ap (λ bs. b ∷ bs) (filter_digits bytes parts.1)

-- one more digit behind digits
pub value_more : (bytes : List ℕ) (i : ℕ) → i < length bytes
    → value_of (take (i + 1) bytes) ≡ value_of (take i bytes) * 10 + digit_value (get_or bytes i 0)
value_more bytes i within =
    ap value_of (take_more bytes i 0 within) ∙ digits_value_push 10 (take i bytes) (get_or bytes i 0)

pub digits_more : (bytes : List ℕ) (i : ℕ) → i < length bytes → list_all is_digit (take i bytes) ≡ true
    → is_digit (get_or bytes i 0) ≡ true → list_all is_digit (take (i + 1) bytes) ≡ true
digits_more bytes i within all is = list_all_more is_digit bytes i 0 within ∙ and_from _ _ all is

-- each of digits is one
right_or_not : (b : Bool) → (b ≡ false → ⊥) → b ≡ true
right_or_not true isnt = refl
right_or_not false isnt = absurd (isnt refl)

pub digit_among : (digits : List ℕ) (i : ℕ) → list_all is_digit digits ≡ true → i < length digits
    → is_digit (get_or digits i 0) ≡ true
digit_among digits i all within =
    right_or_not _ (λ isnt. let none = list_all_at is_digit digits i 0 within isnt in cc (none, all))
