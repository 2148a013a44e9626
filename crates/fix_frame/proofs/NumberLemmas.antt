-- Numbers in decimal digits.
use Rattle.std.proofs.Common.{◌≡◌, ◌≢◌, ℕ, zero, suc, ◌+◌, ◌-◌, ◌*◌, ◌/◌, ◌%◌, ◌^◌, ◌≤◌, ◌<◌, List, [], ◌∷◌, ◌++◌}
use Rattle.std.proofs.Common.{length, take, drop, get_or, inl, inr, refl, ap, sym, ◌∙◌, subst, arith}
use Rattle.std.specs.Fmt.{decimal}
use Rattle.std.specs.Char.{digit_value}
use Rattle.std.specs.Str.Parse.{AllDigits, digits_value}
use Rattle.std.proofs.Math.ListN.{get_or-append}
use Rattle.std.proofs.Math.Seq.{get_or-append_seam}
use Rattle.std.proofs.lemmas.Bool.{cases_lt}
use Rattle.std.proofs.lemmas.List.{take_more, length-take, get_or-take}
use Rattle.std.proofs.lemmas.Fmt.{decimal_is_IsNumeral, decimal_step, decimal_digit, first_decimal, length-decimal-le}
use Rattle.std.proofs.lemmas.Fmt.{decimal_nonempty}
use Rattle.std.proofs.lemmas.Str.Parse.{IsNumeralModel, numerals_by_value, tells_digits, digits_value_short}
use Rattle.std.proofs.lemmas.Str.Parse.{digits_value-take-le, digit_at}
use Rattle.fix_frame.specs.Grammar.{three_digits}
use Rattle.fix_frame.specs.Cuts.{Lacks, IsTag, BeginsNoTag}

own : IsNumeralModel (AllDigits 10) (digits_value 10)
own = numerals_by_value _ tells_digits

-- one digit more
pub decimal_more : (n d : ℕ) → 1 ≤ n → n ≤ 99999 → 48 ≤ d → d ≤ 57 → decimal (n * 10 + (d - 48)) ≡ decimal n ++ d ∷ []
decimal_more n d from to low high =
    let q : (n * 10 + (d - 48)) / 10 ≡ n = omega arith in
    let r : 48 + (n * 10 + (d - 48)) % 10 ≡ d = omega arith in
    decimal_step (n * 10 + (d - 48)) (omega arith) (omega arith) ∙
    ap (λ k. decimal k ++ (48 + (n * 10 + (d - 48)) % 10) ∷ []) q ∙ ap (λ k. decimal n ++ k ∷ []) r

digits_lack : (mark : ℕ) (ds : List ℕ) → (digit_value mark < 10 → ⊥) → AllDigits 10 ds → Lacks mark ds
digits_lack mark [] odd all = tt
digits_lack mark (d ∷ ds) odd all =
    ((λ e. odd (subst (λ x. digit_value x < 10) e all.0)), digits_lack mark ds odd all.1)

pub decimal_lacks : (mark n : ℕ) → n < 2 ^ 64 → (digit_value mark < 10 → ⊥) → Lacks mark (decimal n)
decimal_lacks mark n fits odd = digits_lack mark (decimal n) odd (decimal_is_IsNumeral n fits).0.1

-- so many digits bound a number
pub decimal_short : (n k : ℕ) → n < 2 ^ 64 → length (decimal n) ≤ k → n < 10 ^ k
decimal_short n k fits short =
    let p = decimal_is_IsNumeral n fits in
    subst (λ v. v < 10 ^ k) p.1 (digits_value_short own (decimal n) k p.0.1 short)

-- the digits of a number that begin another's spell no more than it
pub decimal_front : (n m : ℕ) → n < 2 ^ 64 → m < 2 ^ 64 → decimal n ≡ take (length (decimal n)) (decimal m) → n ≤ m
decimal_front n m fits fits' e =
    let p = (decimal_is_IsNumeral n fits).1 in
    let q = (decimal_is_IsNumeral m fits').1 in
    let le = digits_value-take-le 10 (decimal m) (length (decimal n)) (omega arith) in
    let same : digits_value 10 (take (length (decimal n)) (decimal m)) ≡ n = ap (digits_value 10) (sym e) ∙ p in
    omega (arith, le, same, q)

-- each byte is a digit
pub decimal_at : (n i : ℕ) → n < 2 ^ 64 → i < length (decimal n) →
    (48 ≤ get_or (decimal n) i 0) × (get_or (decimal n) i 0 ≤ 57)
decimal_at n i fits h = digit_at (decimal n) i (decimal_is_IsNumeral n fits).0.1 h

-- what bytes look like that begin with a tag and its equals sign
pub record LooksTagged (bytes : List ℕ) (long : ℕ) : Type 0 where
  pub some : 0 < long
  pub few : long ≤ 5
  pub first : (49 ≤ get_or bytes 0 0) × (get_or bytes 0 0 ≤ 57)
  pub digits : (i : ℕ) → i < long → (48 ≤ get_or bytes i 0) × (get_or bytes i 0 ≤ 57)
  pub sign : get_or bytes long 0 ≡ 61

looks_tagged : (n : ℕ) (rest : List ℕ) → IsTag n → LooksTagged (decimal n ++ 61 ∷ rest) (length (decimal n))
looks_tagged n rest is =
    let fits : n < 2 ^ 64 = omega (arith, is.1) in
    let some = decimal_nonempty n fits in
    let front = λ (i : ℕ) (h : i < length (decimal n)). get_or-append (decimal n) (61 ∷ rest) 0 i h in
    let first = first_decimal n (omega (arith, is.0)) fits in
    let digit = decimal_at n 0 fits some in record {
      some = some;
      few = length-decimal-le 5 n (omega arith) (omega (arith, is.1)) fits;
      first = rw (front 0 some) (omega (arith, first), digit.1);
      digits = λ i h. rw (front i h) (decimal_at n i fits h);
      sign = get_or-append_seam (decimal n) 61 rest 0;
    }

pub looks : (n : ℕ) (bytes rest : List ℕ) → IsTag n → bytes ≡ decimal n ++ 61 ∷ rest
    → LooksTagged bytes (length (decimal n))
looks n bytes rest is e = subst (λ (k : List ℕ). LooksTagged k (length (decimal n))) (sym e) (looks_tagged n rest is)

-- the first i digits spell the tag so far
pub record SpellsSoFar (ds : List ℕ) (i tag : ℕ) : Type 0 where
  pub none : i ≡ 0 → tag ≡ 0
  pub some : 0 < i → (take i ds ≡ decimal tag) × (1 ≤ tag)
  pub bound : tag ≤ 99999

spells_more : (ds : List ℕ) (i tag : ℕ) → get_or ds 0 0 ≢ 48 → i < length ds → SpellsSoFar ds i tag →
    48 ≤ get_or ds i 0 → get_or ds i 0 ≤ 57 →
    (take (i + 1) ds ≡ decimal (tag * 10 + (get_or ds i 0 - 48))) × (1 ≤ tag * 10 + (get_or ds i 0 - 48))
spells_more ds zero tag first within so low high =
    let z : tag ≡ 0 = so.none refl in
    let v : tag * 10 + (get_or ds 0 0 - 48) ≡ get_or ds 0 0 - 48 = omega arith in
    let d : 48 + (get_or ds 0 0 - 48) ≡ get_or ds 0 0 = omega arith in (
      take_more ds 0 0 within ∙ ap (λ k. k ∷ []) (sym d) ∙ sym (decimal_digit (get_or ds 0 0 - 48) (omega arith)) ∙
          ap decimal (sym v),
      omega arith,
    )
spells_more ds (suc i) tag first within so low high =
    let t = so.some (omega arith) in (
      take_more ds (suc i) 0 within ∙ ap (λ k. k ++ get_or ds (suc i) 0 ∷ []) t.0 ∙
          sym (decimal_more tag (get_or ds (suc i) 0) t.1 so.bound low high),
      omega (arith, t.1),
    )

pub one_more : (ds : List ℕ) (i tag : ℕ) → get_or ds 0 0 ≢ 48 → i < length ds → tag ≤ 9999 → SpellsSoFar ds i tag →
    48 ≤ get_or ds i 0 → get_or ds i 0 ≤ 57 → SpellsSoFar ds (i + 1) (tag * 10 + (get_or ds i 0 - 48))
one_more ds i tag first within few so low high =
    let s = spells_more ds i tag first within so low high in
    record { none = λ e. omega arith; some = λ _. s; bound = omega arith }

-- why no tag stands at the front, where these digits do
pub first_wrong : (bytes : List ℕ) → (49 ≤ get_or bytes 0 0 → get_or bytes 0 0 ≤ 57 → ⊥) → BeginsNoTag bytes
first_wrong bytes odd n rest is e = let l = looks n bytes rest is e in odd l.first.0 l.first.1

module _ (bytes : List ℕ) (at tag : ℕ) (within : at < length bytes) (so : SpellsSoFar bytes at tag)
    (other : get_or bytes at 0 ≢ 61) where
  digits_long : 0 < at → length (decimal tag) ≡ at
  digits_long some = omega (arith, ap length (so.some some).0, length-take at bytes)

  digit_before : (k : ℕ) → k < at → (48 ≤ get_or bytes k 0) × (get_or bytes k 0 ≤ 57)
  digit_before k early =
      let some : 0 < at = omega arith in
      let long = digits_long some in
      let same : get_or (decimal tag) k 0 ≡ get_or bytes k 0 =
      ap (λ ds. get_or ds k 0) (sym (so.some some).0) ∙ get_or-take at bytes k 0 early in
      rw same at (decimal_at tag k (omega (arith, so.bound)) (omega (arith, long)))

  not_behind : (n : ℕ) (rest : List ℕ) → IsTag n → bytes ≡ decimal n ++ 61 ∷ rest → length (decimal n) ≤ at → ⊥
  not_behind n rest is e late =
      let l = looks n bytes rest is e in elim (cases_lt (length (decimal n)) at) [
        | inl early ↦ let digit = digit_before (length (decimal n)) early in omega (arith, digit, l.sign)
        | inr there ↦ other (ap (λ k. get_or bytes k 0) (let same : at ≡ length (decimal n) = omega arith in same)
            ∙ l.sign)
      ]

  pub odd_byte : (48 ≤ get_or bytes at 0 → get_or bytes at 0 ≤ 57 → ⊥) → BeginsNoTag bytes
  odd_byte odd n rest is e =
      let l = looks n bytes rest is e in elim (cases_lt at (length (decimal n))) [
        | inl early ↦ let digit = l.digits at early in odd digit.0 digit.1
        | inr late ↦ not_behind n rest is e late
      ]

  many_digits : 9999 < tag → 5 ≤ at
  many_digits large = elim (cases_lt at 5) [
    | inl few ↦
        let some : 0 < at = elim (cases_lt 0 at) [
          | inl some ↦ some
          | inr none ↦ absurd
              (omega (arith, so.none (omega arith)))
        ] in
        absurd (omega (arith, decimal_short tag 4 (omega (arith, so.bound)) (omega (arith, digits_long some))))
    | inr many ↦ many
  ]

  pub too_long : 9999 < tag → BeginsNoTag bytes
  too_long large n rest is e =
      let l = looks n bytes rest is e in not_behind n rest is e (omega (arith, l.few, many_digits large))

-- the digits of a number below 1,000, from the first that isn't a leading zero on
pub decimal_one : (n : ℕ) → n < 10 → decimal n ≡ drop 2 (three_digits n)
decimal_one n small =
    let same : n ≡ n % 10 = omega arith in
    decimal_digit n small ∙ ap (λ d. (48 + d) ∷ []) same

pub decimal_two : (n : ℕ) → 10 ≤ n → n < 100 → decimal n ≡ drop 1 (three_digits n)
decimal_two n low high =
    let same : n / 10 ≡ n / 10 % 10 = omega arith in
    decimal_step n low (omega arith) ∙ ap (λ ds. ds ++ (48 + n % 10) ∷ []) (decimal_digit (n / 10) (omega arith) ∙
    ap (λ d. (48 + d) ∷ []) same)

pub decimal_three : (n : ℕ) → 100 ≤ n → n < 1000 → decimal n ≡ three_digits n
decimal_three n low high =
    let same : n / 10 / 10 ≡ n / 100 = omega arith in
    let front : decimal (n / 10) ≡ (48 + n / 100) ∷ (48 + n / 10 % 10) ∷ [] = decimal_step (n / 10) (omega arith)
    (omega arith) ∙ ap (λ ds. ds ++ (48 + n / 10 % 10) ∷ []) (decimal_digit (n / 10 / 10) (omega arith) ∙
    ap (λ d. (48 + d) ∷ []) same) in
    decimal_step n (omega arith) (omega arith) ∙ ap (λ ds. ds ++ (48 + n % 10) ∷ []) front

-- two digits and an equals sign in front
pub two_digits : (bytes : List ℕ) (tens ones : ℕ) → 3 ≤ length bytes → get_or bytes 0 0 ≡ 48 + tens
    → get_or bytes 1 0 ≡ 48 + ones → get_or bytes 2 0 ≡ 61 → 1 ≤ tens → tens < 10 → ones < 10
    → bytes ≡ decimal (tens * 10 + ones) ++ 61 ∷ drop 3 bytes
two_digits (a ∷ b ∷ s ∷ bytes) tens ones long first second sign some small few =
    let q : (tens * 10 + ones) / 10 ≡ tens = omega arith in
    let r : (tens * 10 + ones) % 10 ≡ ones = omega arith in
    let digits : decimal (tens * 10 + ones) ≡ (48 + tens) ∷ (48 + ones) ∷ [] =
    decimal_step (tens * 10 + ones) (omega arith) (omega arith)
    ∙ ap (λ k. decimal k ++ (48 + (tens * 10 + ones) % 10) ∷ []) q
    ∙ ap (λ k. decimal tens ++ (48 + k) ∷ []) r
    ∙ ap (λ ds. ds ++ (48 + ones) ∷ []) (decimal_digit tens small) in
    rw digits (cc (first, second, sign))
two_digits [] tens ones long first second sign some small few = absurd (omega arith)
two_digits (a ∷ []) tens ones long first second sign some small few = absurd (omega arith)
two_digits (a ∷ b ∷ []) tens ones long first second sign some small few = absurd (omega arith)
