-- Writing one piece behind another.
use Rattle.std.proofs.Common.{◌≡◌, ℕ, ◌+◌, ◌<◌, ◌≤◌, ◌^◌, ◌/◌, ◌%◌, List, [], ◌∷◌, ◌++◌, length, take, drop, set, sym, ap, ◌∙◌, refl, arith, append_assoc, length-append}
use Rattle.std.proofs.lemmas.List.{drop-set-lt, drop-drop}
use Rattle.std.proofs.lemmas.Grind.{take-set_at}
use Rattle.std.specs.Fmt.{decimal}
use Rattle.std.proofs.lemmas.Fmt.{decimal_step, decimal_digit, length-decimal-le}
use Rattle.fix_frame.specs.Grammar.{Field, print_fields, field_then}
use Rattle.fix_orders.specs.Formats.{last_digits}
use Rattle.fix_orders.specs.Text.{field}
use Rattle.fix_orders.specs.Writing.{Puts, PutsFields}

-- what stands behind a place stands behind a later one
drop_later : (a b : List ℕ) (j n k : ℕ) → drop j b ≡ drop j a → k ≡ j + n → drop k b ≡ drop k a
drop_later a b j n k same long = rw (long, ← drop-drop n j b, ← drop-drop n j a) (ap (drop n) same)

-- a piece and then another one are both together
pub puts_join : {a b c : List ℕ} {i j k : ℕ} {xs ys : List ℕ} → Puts a b i j xs → Puts b c j k ys
    → Puts a c i k (xs ++ ys)
puts_join {a} {b} {c} {i} {j} {k} {xs} {ys} first then = record {
  written = then.written ∙ ap (λ front. front ++ ys) first.written ∙ append_assoc (take i a) xs ys;
  behind = then.behind ∙ drop_later a b j (length ys) k first.behind then.long;
  long = omega (arith, length-append xs ys, first.long, then.long);
}

-- one byte
pub puts_byte : (a : List ℕ) (i b : ℕ) → i < length a → Puts a (set a i b) i (i + 1) (b ∷ [])
puts_byte a i b within = record {
  written = take-set_at a i (i + 1) b refl within;
  behind = drop-set-lt (i + 1) a i b (omega arith);
  long = refl;
}

-- a digit, and one behind the digits of a number
pub puts_digit : (a : List ℕ) (i n : ℕ) → n < 10 → i < length a → Puts a (set a i (48 + n)) i (i + 1) (decimal n)
puts_digit a i n small within = rw (decimal_digit n small) (puts_byte a i (48 + n) within)

pub puts_more : {a b c : List ℕ} {i j k : ℕ} (n : ℕ) → 10 ≤ n → n < 2 ^ 64 → Puts a b i j (decimal (n / 10))
    → Puts b c j k (decimal (n % 10))
    → Puts a c i k (decimal n)
puts_more n large fits first last =
    let end : n % 10 < 10 = omega arith in
    rw (decimal_step n large fits, ← decimal_digit (n % 10) end) (puts_join first last)

-- two digits, and two behind the digits of a number
decimal_two : (n : ℕ) → 10 ≤ n → n < 100 → decimal n ≡ last_digits 2 n
decimal_two n large small =
    let front : n / 10 < 10 = omega arith in
    let tens : n / 10 % 10 ≡ n / 10 = omega arith in
    decimal_step n large (omega arith) ∙ ap (λ ds. ds ++ (48 + n % 10) ∷ []) (decimal_digit (n / 10) front)
    ∙ ap (λ d. (48 + d) ∷ (48 + n % 10) ∷ []) (sym tens)

pub puts_two : {a b : List ℕ} {i j : ℕ} (n : ℕ) → 10 ≤ n → n < 100 → Puts a b i j (last_digits 2 n) → Puts a b i j (decimal n)
puts_two n large small written = rw (decimal_two n large small) written

decimal_hundreds : (n : ℕ) → 100 ≤ n → n < 2 ^ 64 → decimal n ≡ decimal (n / 100) ++ last_digits 2 n
decimal_hundreds n large fits =
    let front : n / 10 / 10 ≡ n / 100 = omega arith in
    decimal_step n (omega arith) fits
    ∙ ap (λ ds. ds ++ (48 + n % 10) ∷ []) (decimal_step (n / 10) (omega arith) (omega arith))
    ∙ append_assoc (decimal (n / 10 / 10)) ((48 + n / 10 % 10) ∷ []) ((48 + n % 10) ∷ [])
    ∙ ap (λ m. decimal m ++ last_digits 2 n) front

-- the last two digits are those of the remainder
last_of : (n m : ℕ) → n % 100 ≡ m % 100 → last_digits 2 n ≡ last_digits 2 m
last_of n m same =
    let tens : n / 10 % 10 ≡ m / 10 % 10 = omega (arith, same) in
    let ones : n % 10 ≡ m % 10 = omega (arith, same) in
    ap (λ d. (48 + d) ∷ (48 + n % 10) ∷ []) tens ∙ ap (λ d. (48 + m / 10 % 10) ∷ (48 + d) ∷ []) ones

pub puts_hundreds : {a b c : List ℕ} {i j k : ℕ} (n m : ℕ) → 100 ≤ n → n < 2 ^ 64 → n % 100 ≡ m % 100
    → Puts a b i j (decimal (n / 100)) → Puts b c j k (last_digits 2 m) → Puts a c i k (decimal n)
puts_hundreds n m large fits same first last =
    rw (decimal_hundreds n large fits, last_of n m same) (puts_join first last)

-- four digits behind those of a number
pub puts_four : {a b c d : List ℕ} {i j k l : ℕ} (n : ℕ) → 10000 ≤ n → n < 2 ^ 64
    → Puts a b i j (decimal (n / 10000)) → Puts b c j k (last_digits 2 (n % 10000 / 100))
    → Puts c d k l (last_digits 2 (n % 10000)) → Puts a d i l (decimal n)
puts_four {a} {b} {c} {d} {i} {j} n large fits first second third =
    let front : n / 10000 ≡ n / 100 / 100 = omega arith in
    let begun : Puts a b i j (decimal (n / 100 / 100)) = rw (← front) first in
    puts_hundreds n (n % 10000) (omega arith) fits (omega arith)
    (puts_hundreds (n / 100) (n % 10000 / 100) (omega arith) (omega arith) (omega arith) begun second) third

-- how many digits stand in front of the last two, or four
pub length_hundreds : (n : ℕ) → 100 ≤ n → n < 2 ^ 64 → length (decimal n) ≡ length (decimal (n / 100)) + 2
length_hundreds n large fits = ap length (decimal_hundreds n large fits) ∙ length-append (decimal (n / 100)) (last_digits 2 n)

pub length_four : (n : ℕ) → 10000 ≤ n → n < 2 ^ 64 → length (decimal n) ≡ length (decimal (n / 10000)) + 4
length_four n large fits =
    let front : length (decimal (n / 100 / 100)) ≡ length (decimal (n / 10000)) = ap (λ m. length (decimal m)) (omega arith) in
    omega (arith, length_hundreds n (omega arith) fits, length_hundreds (n / 100) (omega arith) (omega arith), front)

pub length_two : (n : ℕ) → 10 ≤ n → n < 100 → length (decimal n) ≡ 2
length_two n large small = ap length (decimal_two n large small)

-- a tag has 5 digits at most, a number 20
pub tag_digits : (tag : ℕ) → tag ≤ 99999 → length (decimal tag) ≤ 5
tag_digits tag h = length-decimal-le 5 tag (omega arith) (omega arith) (omega arith)

pub number_digits : (n : ℕ) → n < 2 ^ 64 → length (decimal n) ≤ 20
number_digits n h = length-decimal-le 20 n (omega arith) (omega arith) h

-- how many digits a number has
pub length_digit : (n : ℕ) → n < 10 → length (decimal n) ≡ 1
length_digit n small = ap length (decimal_digit n small)

-- tag, equals sign, value and SOH are a field
pub puts_field : {a b c d e : List ℕ} {i j k l m : ℕ} (tag : ℕ) (value : List ℕ) → Puts a b i j (decimal tag)
    → Puts b c j k (61 ∷ []) → Puts c d k l value → Puts d e l m (1 ∷ []) → PutsFields a e i m (field tag value ∷ [])
unfolding field_then
puts_field tag value p q r s =
    let joined = puts_join (puts_join (puts_join p q) r) s in
    let bytes : ((decimal tag ++ 61 ∷ []) ++ value) ++ 1 ∷ [] ≡ decimal tag ++ 61 ∷ (value ++ 1 ∷ []) =
    append_assoc (decimal tag ++ 61 ∷ []) value (1 ∷ []) ∙ append_assoc (decimal tag) (61 ∷ []) (value ++ 1 ∷ []) in
    let whole = rw bytes at joined in
    record { written = whole.written; behind = whole.behind; long = whole.long }

-- a run of fields is a run, and then another
pub print_fields-append : (fs gs : List Field) → print_fields (fs ++ gs) ≡ print_fields fs ++ print_fields gs
unfolding field_then
print_fields-append [] gs = refl
print_fields-append (f ∷ fs) gs =
    ap (λ rest. decimal f.tag ++ 61 ∷ (f.value ++ 1 ∷ rest)) (print_fields-append fs gs)
    ∙ ap (λ rest. decimal f.tag ++ 61 ∷ rest) (sym (append_assoc f.value (1 ∷ print_fields fs) (print_fields gs)))
    ∙ sym (append_assoc (decimal f.tag) (61 ∷ (f.value ++ 1 ∷ print_fields fs)) (print_fields gs))

infixl 10 ◌⨟◌
-- fields and then others are both together
pub ◌⨟◌ : {a b c : List ℕ} {i j k : ℕ} {fs gs : List Field} → PutsFields a b i j fs → PutsFields b c j k gs
    → PutsFields a c i k (fs ++ gs)
◌⨟◌ {a} {b} {c} {i} {j} {k} {fs} {gs} first then =
    let p : Puts a b i j (print_fields fs) = record { written = first.written; behind = first.behind; long = first.long } in
    let q : Puts b c j k (print_fields gs) = record { written = then.written; behind = then.behind; long = then.long } in
    let both = puts_join p q in
    let whole : Puts a c i k (print_fields (fs ++ gs)) = rw print_fields-append both in
    record { written = whole.written; behind = whole.behind; long = whole.long }
