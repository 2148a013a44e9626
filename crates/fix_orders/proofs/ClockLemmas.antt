-- A time is the text of its number.
use Rattle.std.proofs.Common.{◌≡◌, ℕ, zero, suc, ◌+◌, ◌-◌, ◌*◌, ◌/◌, ◌%◌, ◌≤◌, ◌<◌, Bool, true, false, IsTrue, List, []}
use Rattle.std.proofs.Common.{◌∷◌, ◌++◌, length, take, get_or, codes, sym, ap, ◌∙◌, refl, arith, ◌==◌}
use Rattle.std.specs.List.{list_all, filter, zip}
use Rattle.std.specs.Char.{digit_value}
use Rattle.std.proofs.lemmas.Bool.{and_parts}
use Rattle.std.proofs.lemmas.Bool.Decides.{nat_tests}
use Rattle.std.proofs.lemmas.Int.Digits.{digits_value_push}
use Rattle.std.proofs.lemmas.List.{append_assoc, take_all, take_more, length-take-le, nil_from_length}
use Rattle.std.proofs.lemmas.List.Elements.{filter-append}
use Rattle.std.proofs.lemmas.List.Folds.{list_all-append, list_all_at}
use Rattle.std.proofs.lemmas.Slice.Zip.{get_or-zip, length-zip}
use Rattle.std.proofs.lemmas.Str.{digit_value_digit}
use Rattle.fix_frame.specs.Ascii.{is_digit}
use Rattle.fix_orders.specs.Formats.{value_of, fits, time_shape, is_time, number_of_time, last_digits, time_text}
use Rattle.fix_orders.proofs.NumberLemmas.{digit_is, digit_range, filter_digits}
use Rattle.fix_orders.proofs.TimeLemmas.{length_time}

-- one more digit
value_push : (p : List ℕ) (c : ℕ) → is_digit c ≡ true
    → (value_of (p ++ c ∷ []) / 10 ≡ value_of p) × (48 + value_of (p ++ c ∷ []) % 10 ≡ c)
value_push p c is =
    let push : value_of (p ++ c ∷ []) ≡ value_of p * 10 + digit_value c = digits_value_push 10 p c in
    let digit = digit_is c is in
    let range = digit_range c is in
    (omega (arith, push), omega (arith, push))

-- two more digits, and the last two
value_pair : (p : List ℕ) (a b : ℕ) → is_digit a ≡ true → is_digit b ≡ true
    → (value_of (p ++ a ∷ b ∷ []) / 100 ≡ value_of p) × (last_digits 2 (value_of (p ++ a ∷ b ∷ [])) ≡ a ∷ b ∷ [])
value_pair p a b is_a is_b =
    let whole : p ++ a ∷ b ∷ [] ≡ (p ++ a ∷ []) ++ b ∷ [] = sym (append_assoc p (a ∷ []) (b ∷ [])) in
    let last = value_push (p ++ a ∷ []) b is_b in
    let first = value_push p a is_a in
    rw whole (omega (arith, last.0, first.0), rw (last.0, first.1, last.1))

-- the last digits of a number are those that it is written with
last_digits-value : (k : ℕ) (p ds : List ℕ) → length ds ≡ k → list_all is_digit ds ≡ true
    → last_digits k (value_of (p ++ ds)) ≡ ds
last_digits-value zero p ds long all = sym (nil_from_length ds long)
last_digits-value (suc k) p ds long all =
    let front = take k ds in
    let c = get_or ds k 0 in
    let split : ds ≡ front ++ c ∷ [] = sym (take_all (k + 1) ds (omega arith)) ∙ take_more ds k 0 (omega arith) in
    let each = and_parts (list_all is_digit front) (list_all is_digit (c ∷ []))
    (sym (ap (list_all is_digit) split ∙ list_all-append is_digit front (c ∷ [])) ∙ all) in
    let push = value_push (p ++ front) c (and_parts (is_digit c) true each.1).0 in
    let regrouped : p ++ ds ≡ (p ++ front) ++ c ∷ [] = ap (λ l. p ++ l) split ∙ sym (append_assoc p front (c ∷ [])) in
    ap (λ l. last_digits k (value_of l / 10) ++ (48 + value_of l % 10) ∷ []) regrouped
    ∙ ap (λ n. last_digits k n ++ (48 + value_of ((p ++ front) ++ c ∷ []) % 10) ∷ []) push.0
    ∙ ap (λ l. l ++ (48 + value_of ((p ++ front) ++ c ∷ []) % 10) ∷ [])
    (last_digits-value k p front (length-take-le k ds (omega arith)) each.0)
    ∙ ap (λ b. front ++ b ∷ []) push.1 ∙ sym split

-- the digits of a time behind its date
clock_digits : (x h i u m n w s t : ℕ) → is_digit x ≡ false → is_digit h ≡ true → is_digit i ≡ true
    → is_digit u ≡ false → is_digit m ≡ true → is_digit n ≡ true
    → is_digit w ≡ false → is_digit s ≡ true → is_digit t ≡ true
    → filter is_digit (x ∷ h ∷ i ∷ u ∷ m ∷ n ∷ w ∷ s ∷ t ∷ []) ≡ h ∷ i ∷ m ∷ n ∷ s ∷ t ∷ []
clock_digits x h i u m n w s t is_x is_h is_i is_u is_m is_n is_w is_s is_t =
    rw (is_x, is_h, is_i, is_u, is_m, is_n, is_w, is_s, is_t)

-- what a shape says of the bytes, one by one
abbrev Fitted : List ℕ → List ℕ → Type 0
Fitted [] bytes = Unit {0}
Fitted (s ∷ shape) [] = Unit {0}
Fitted (s ∷ shape) (b ∷ bytes) = (fits (s, b) ≡ true) × Fitted shape bytes

fitted : (shape bytes : List ℕ) → list_all fits (zip shape bytes) ≡ true → Fitted shape bytes
fitted [] bytes all = tt
fitted (s ∷ shape) [] all = tt
fitted (s ∷ shape) (b ∷ bytes) all =
    let parts = and_parts (fits (s, b)) (list_all fits (zip shape bytes)) all in (parts.0, fitted shape bytes parts.1)

-- date, hours, minutes and seconds with the punctuation between them
abbrev joined : List ℕ → List ℕ → List ℕ → List ℕ → List ℕ
joined d h m s = d ++ codes "-" ++ h ++ codes ":" ++ m ++ codes ":" ++ s

clock_law : (d : List ℕ) (h i m n s t : ℕ) → length d ≡ 8 → list_all is_digit d ≡ true → is_digit h ≡ true
    → is_digit i ≡ true → is_digit m ≡ true → is_digit n ≡ true
    → is_digit s ≡ true → is_digit t ≡ true
    → time_text (value_of (d ++ h ∷ i ∷ m ∷ n ∷ s ∷ t ∷ [])) ≡ d ++ 45 ∷ h ∷ i ∷ 58 ∷ m ∷ n ∷ 58 ∷ s ∷ t ∷ []
unfolding time_text
clock_law d h i m n s t long all is_h is_i is_m is_n is_s is_t =
    let hours = d ++ h ∷ i ∷ [] in
    let minutes = hours ++ m ∷ n ∷ [] in
    let number = value_of (minutes ++ s ∷ t ∷ []) in
    let whole : d ++ h ∷ i ∷ m ∷ n ∷ s ∷ t ∷ [] ≡ minutes ++ s ∷ t ∷ [] =
    sym (append_assoc hours (m ∷ n ∷ []) (s ∷ t ∷ []) ∙ append_assoc d (h ∷ i ∷ []) (m ∷ n ∷ s ∷ t ∷ [])) in
    let seconds_are = value_pair minutes s t is_s is_t in
    let minutes_are = value_pair hours m n is_m is_n in
    let hours_are = value_pair d h i is_h is_i in
    let to_hours : number / 10000 ≡ value_of hours = omega (arith, seconds_are.0, minutes_are.0) in
    let to_date : number / 1000000 ≡ value_of d = omega (arith, seconds_are.0, minutes_are.0, hours_are.0) in
    ap (λ l. time_text (value_of l)) whole
    ∙ ap (λ k. joined (last_digits 8 k) (last_digits 2 (number / 10000)) (last_digits 2 (number / 100))
    (last_digits 2 number)) to_date
    ∙ ap (λ l. joined l (last_digits 2 (number / 10000)) (last_digits 2 (number / 100)) (last_digits 2 number))
    (last_digits-value 8 [] d long all)
    ∙ ap (λ l. joined d l (last_digits 2 (number / 100)) (last_digits 2 number))
    (ap (last_digits 2) to_hours ∙ hours_are.1)
    ∙ ap (λ l. joined d (h ∷ i ∷ []) l (last_digits 2 number)) (ap (last_digits 2) seconds_are.0 ∙ minutes_are.1)
    ∙ ap (λ l. joined d (h ∷ i ∷ []) (m ∷ n ∷ []) l) seconds_are.1
    ∙ simp append_assoc

-- the digits of a time, in front of one another
time_digits : (a b c d e f g h x i j u k l w m n : ℕ)
    → IsTrue (is_time (a ∷ b ∷ c ∷ d ∷ e ∷ f ∷ g ∷ h ∷ x ∷ i ∷ j ∷ u ∷ k ∷ l ∷ w ∷ m ∷ n ∷ []))
    → filter is_digit (a ∷ b ∷ c ∷ d ∷ e ∷ f ∷ g ∷ h ∷ x ∷ i ∷ j ∷ u ∷ k ∷ l ∷ w ∷ m ∷ n ∷ [])
    ≡ a ∷ b ∷ c ∷ d ∷ e ∷ f ∷ g ∷ h ∷ i ∷ j ∷ k ∷ l ∷ m ∷ n ∷ []
time_digits a b c d e f g h x i j u k l w m n is =
    let date = a ∷ b ∷ c ∷ d ∷ e ∷ f ∷ g ∷ h ∷ [] in
    let clock = x ∷ i ∷ j ∷ u ∷ k ∷ l ∷ w ∷ m ∷ n ∷ [] in
    let shaped : list_all fits (zip time_shape (date ++ clock)) ≡ true = is in
    let parts = and_parts (list_all is_digit date) (list_all fits (zip (codes "-00:00:00") clock))
    (sym (list_all-append fits (zip (codes "00000000") date) (zip (codes "-00:00:00") clock)) ∙ shaped) in
    let each = fitted (codes "-00:00:00") clock parts.1 in
    let x_is : x ≡ 45 = grind (arith, nat_tests, each.0) in
    let u_is : u ≡ 58 = grind (arith, nat_tests, each.1.1.1.0) in
    let w_is : w ≡ 58 = grind (arith, nat_tests, each.1.1.1.1.1.1.0) in
    filter-append is_digit date clock ∙ ap (λ front. front ++ filter is_digit clock) (filter_digits date parts.0)
    ∙ ap (λ back. date ++ back) (clock_digits x i j u k l w m n (ap is_digit x_is) each.1.0 each.1.1.0
    (ap is_digit u_is) each.1.1.1.1.0 each.1.1.1.1.1.0
    (ap is_digit w_is) each.1.1.1.1.1.1.1.0 each.1.1.1.1.1.1.1.1.0)

-- where a time has a digit
right_or_not : (b : Bool) → (b ≡ false → ⊥) → b ≡ true
right_or_not true isnt = refl
right_or_not false isnt = absurd (isnt refl)

pub time_digit : (time : List ℕ) (at : ℕ) → IsTrue (is_time time) → at < 17 → get_or time_shape at 0 ≡ 48
    → (48 ≤ get_or time at 0) × (get_or time at 0 ≤ 57)
time_digit time at is within shape =
    let long = length_time time is in
    let pairs = zip time_shape time in
    let shape_long : length time_shape ≡ 17 = refl in
    let many : length pairs ≡ 17 = omega (arith, length-zip time_shape time, long, shape_long) in
    let parts = and_parts (length time == 17) (list_all fits pairs) is in
    let here : get_or pairs at (0, 0) ≡ (48, get_or time at 0) =
    get_or-zip time_shape time at (0, 0) within (omega (arith, long)) ∙ ap (λ s. (s, get_or time at 0)) shape in
    let fit : fits (get_or pairs at (0, 0)) ≡ true = right_or_not _
    (λ wrong. let none = list_all_at fits pairs at (0, 0) (omega (arith, many)) wrong in cc (none, parts.1)) in
    digit_range (get_or time at 0) (sym (ap fits here) ∙ fit)

-- two digits more
pair_more : (p : List ℕ) (a b : ℕ) → (48 ≤ a) × (a ≤ 57) → (48 ≤ b) × (b ≤ 57)
    → value_of (p ++ a ∷ b ∷ []) ≡ value_of p * 100 + ((a - 48) * 10 + (b - 48))
pair_more p a b is_a is_b =
    let whole : p ++ a ∷ b ∷ [] ≡ (p ++ a ∷ []) ++ b ∷ [] = sym (append_assoc p (a ∷ []) (b ∷ [])) in
    let last = digits_value_push 10 (p ++ a ∷ []) b in
    let first = digits_value_push 10 p a in
    ap value_of whole ∙ omega (arith, last, first, digit_value_digit a is_a, digit_value_digit b is_b)

first_pair : (a b : ℕ) → (48 ≤ a) × (a ≤ 57) → (48 ≤ b) × (b ≤ 57) → value_of (a ∷ b ∷ []) ≡ (a - 48) * 10 + (b - 48)
first_pair a b is_a is_b = let none : value_of [] ≡ 0 = refl in pair_more [] a b is_a is_b ∙ omega (arith, none)

-- the number of two digits of a time
abbrev pub two_of : List ℕ → ℕ → ℕ
two_of time at = (get_or time at 0 - 48) * 10 + (get_or time (at + 1) 0 - 48)

-- the number of a time, two digits after two digits
pub time_number : (time : List ℕ) → IsTrue (is_time time)
    → number_of_time time ≡ (((((two_of time 0 * 100 + two_of time 2) * 100 + two_of time 4) * 100 + two_of time 6)
    * 100
    + two_of time 9) * 100 + two_of time 12) * 100 + two_of time 15
time_number (a ∷ b ∷ c ∷ d ∷ e ∷ f ∷ g ∷ h ∷ x ∷ i ∷ j ∷ u ∷ k ∷ l ∷ w ∷ m ∷ n ∷ []) is =
    let time = a ∷ b ∷ c ∷ d ∷ e ∷ f ∷ g ∷ h ∷ x ∷ i ∷ j ∷ u ∷ k ∷ l ∷ w ∷ m ∷ n ∷ [] in
    let at = λ (p : ℕ) (h : p < 17) (s : get_or time_shape p 0 ≡ 48). time_digit time p is h s in
    let v1 = first_pair a b (at 0 (omega arith) refl) (at 1 (omega arith) refl) in
    let v2 = pair_more (a ∷ b ∷ []) c d (at 2 (omega arith) refl) (at 3 (omega arith) refl) in
    let v3 = pair_more (a ∷ b ∷ c ∷ d ∷ []) e f (at 4 (omega arith) refl) (at 5 (omega arith) refl) in
    let v4 = pair_more (a ∷ b ∷ c ∷ d ∷ e ∷ f ∷ []) g h (at 6 (omega arith) refl) (at 7 (omega arith) refl) in
    let v5 = pair_more (a ∷ b ∷ c ∷ d ∷ e ∷ f ∷ g ∷ h ∷ []) i j (at 9 (omega arith) refl) (at 10 (omega arith) refl) in
    let v6 = pair_more (a ∷ b ∷ c ∷ d ∷ e ∷ f ∷ g ∷ h ∷ i ∷ j ∷ []) k l (at 12 (omega arith) refl)
    (at 13 (omega arith) refl) in
    let v7 = pair_more (a ∷ b ∷ c ∷ d ∷ e ∷ f ∷ g ∷ h ∷ i ∷ j ∷ k ∷ l ∷ []) m n (at 15 (omega arith) refl)
    (at 16 (omega arith) refl) in
    ap value_of (time_digits a b c d e f g h x i j u k l w m n is) ∙ v7
    ∙ ap (λ v. v * 100 + two_of time 15) (v6 ∙ ap (λ v. v * 100 + two_of time 12) (v5
    ∙ ap (λ v. v * 100 + two_of time 9) (v4 ∙ ap (λ v. v * 100 + two_of time 6) (v3
    ∙ ap (λ v. v * 100 + two_of time 4) (v2 ∙ ap (λ v. v * 100 + two_of time 2) v1)))))
time_number time is = absurd (omega (arith, length_time time is))

-- a time is the text of its number
pub time_law : (time : List ℕ) → IsTrue (is_time time) → time_text (number_of_time time) ≡ time
time_law (a ∷ b ∷ c ∷ d ∷ e ∷ f ∷ g ∷ h ∷ x ∷ i ∷ j ∷ u ∷ k ∷ l ∷ w ∷ m ∷ n ∷ []) is =
    let date = a ∷ b ∷ c ∷ d ∷ e ∷ f ∷ g ∷ h ∷ [] in
    let clock = x ∷ i ∷ j ∷ u ∷ k ∷ l ∷ w ∷ m ∷ n ∷ [] in
    let shaped : list_all fits (zip time_shape (date ++ clock)) ≡ true = is in
    let parts = and_parts (list_all is_digit date) (list_all fits (zip (codes "-00:00:00") clock))
    (sym (list_all-append fits (zip (codes "00000000") date) (zip (codes "-00:00:00") clock)) ∙ shaped) in
    let each = fitted (codes "-00:00:00") clock parts.1 in
    let x_is : x ≡ 45 = grind (arith, nat_tests, each.0) in
    let u_is : u ≡ 58 = grind (arith, nat_tests, each.1.1.1.0) in
    let w_is : w ≡ 58 = grind (arith, nat_tests, each.1.1.1.1.1.1.0) in
    let digits = time_digits a b c d e f g h x i j u k l w m n is in
    ap (λ ds. time_text (value_of ds)) digits
    ∙ clock_law date i j k l m n refl parts.0 each.1.0 each.1.1.0 each.1.1.1.1.0 each.1.1.1.1.1.0 each.1.1.1.1.1.1.1.0
    each.1.1.1.1.1.1.1.1.0
    ∙ ap (λ y. date ++ y ∷ i ∷ j ∷ 58 ∷ k ∷ l ∷ 58 ∷ m ∷ n ∷ []) (sym x_is)
    ∙ ap (λ y. date ++ x ∷ i ∷ j ∷ y ∷ k ∷ l ∷ 58 ∷ m ∷ n ∷ []) (sym u_is)
    ∙ ap (λ y. date ++ x ∷ i ∷ j ∷ u ∷ k ∷ l ∷ y ∷ m ∷ n ∷ []) (sym w_is)
time_law time is = absurd (omega (arith, length_time time is))
