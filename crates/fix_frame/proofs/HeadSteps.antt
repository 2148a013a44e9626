-- One byte more of a head: what it begins then, or why it begins none.
use Rattle.std.proofs.Common.{◌≡◌, ◌≢◌, ℕ, ◌+◌, ◌-◌, ◌*◌, ◌≤◌, ◌<◌, ◌^◌, ◌⊎◌, inl, inr, List, [], ◌∷◌, ◌++◌, length}
use Rattle.std.proofs.Common.{take, get_or, refl, ap, sym, ◌∙◌, subst, arith, true, false}
use Rattle.std.specs.Fmt.{decimal}
use Rattle.std.proofs.lemmas.Fmt.{decimal_digit, decimal_nonempty, first_decimal, decimal_injective}
use Rattle.std.proofs.lemmas.List.{append_assoc, append-nil, append_cancel_left, length-append, length_push, take_more}
use Rattle.std.proofs.lemmas.List.{take_all, length-take, get_or_push, get_or_append_left, get_or-take}
use Rattle.std.proofs.lemmas.Bool.{cases_lt}
use Rattle.std.proofs.lemmas.Bool.Decides.{nat_tests}
use Rattle.fix_frame.specs.Grammar.{head}
use Rattle.fix_frame.specs.Stream.{IsLength, head_fault, ends_in_digit, IsWrong}
use Rattle.fix_frame.specs.Ascii.{is_digit}
use Rattle.fix_frame.specs.declared.fault.FrameFault.TheVariants.{BadBegin, BadLength, TooLong}
use Rattle.fix_frame.specs.Stages.{opening, IsHeading, IsResting}
use Rattle.fix_frame.specs.Cuts.{Lacks, all_but_last}
use Rattle.fix_frame.proofs.CutLemmas.{one_cut, lacking_front, lacks_append, all_but_last-take}
use Rattle.fix_frame.proofs.NumberLemmas.{decimal_lacks, decimal_more, decimal_short, decimal_front, decimal_at}
use Rattle.fix_frame.proofs.HeadLemmas.{head-opening, NoHead, no_head_wrong, length_fits}

pub last_off : (bytes : List ℕ) → 0 < length bytes →
    bytes ≡ all_but_last bytes ++ get_or bytes (length bytes - 1) 0 ∷ []
last_off bytes some =
    let n : (length bytes - 1) + 1 ≡ length bytes = omega arith in
    sym (take_all ((length bytes - 1) + 1) bytes (omega arith)) ∙ take_more bytes (length bytes - 1) 0 (omega arith)

not_digit : (b : ℕ) → (48 ≤ b → b ≤ 57 → ⊥) → is_digit b ≡ false
not_digit b odd = grind (arith, nat_tests)

a_digit : (b : ℕ) → 48 ≤ b → b ≤ 57 → is_digit b ≡ true
a_digit b low high = grind (arith, nat_tests)

module _ (bytes front : List ℕ) (byte v : ℕ) (e : bytes ≡ front ++ byte ∷ []) (h : IsHeading front v) where
  longer : length bytes ≡ length front + 1
  longer = ap length e ∙ length_push front byte

  -- another byte
  pub no_opening : length front < 12 → byte ≢ get_or opening (length front) 0 → NoHead bytes
  no_opening early other n more rest is same =
      let left : get_or (bytes ++ more) (length front) 0 ≡ byte = ap (λ k. get_or (k ++ more) (length front) 0) e ∙
      get_or_append_left (front ++ byte ∷ []) more 0 (length front) (omega (arith, length_push front byte)) ∙
      get_or_push front byte 0 (length front) refl in
      let right : get_or (head n ++ rest) (length front) 0 ≡ get_or opening (length front) 0 = ap
      (λ k. get_or k (length front) 0) (head-opening n rest) ∙
      get_or_append_left opening (decimal n ++ 1 ∷ rest) 0 (length front) early in
      other (sym left ∙ ap (λ k. get_or k (length front) 0) same ∙ right)

  -- behind the opening stand the digits of v, or none
  behind_opening : 12 ≤ length front → ((front ≡ opening ++ []) × (v ≡ 0)) ⊎
      ((front ≡ opening ++ decimal v) × (1 ≤ v) × (v ≤ 297))
  behind_opening late = elim (cases_lt 12 (length front)) [
    | inl more ↦ inr (h.counts more)
    | inr whole ↦ inl (
      (h.opens whole).0 ∙ ap (λ k. take k opening) (let t : length front ≡ 12 = omega arith in t),
      (h.opens whole).1,
    )
  ]

  last : get_or bytes (length bytes - 1) 0 ≡ byte
  last = ap (λ k. get_or k (length k - 1) 0) e ∙
      get_or_push front byte 0 (length (front ++ byte ∷ []) - 1) (omega (arith, length_push front byte))

  begin_fault : length bytes ≤ 10 → head_fault bytes ≡ BadBegin
  begin_fault few = grind (arith, nat_tests)

  early_fault : 10 < length bytes → length bytes < 15 → head_fault bytes ≡ BadLength
  early_fault low high = grind (arith, nat_tests)

  other_fault : 10 < length bytes → (48 ≤ byte → byte ≤ 57 → ⊥) → head_fault bytes ≡ BadLength
  other_fault low odd =
      let no_digit : ends_in_digit bytes ≡ false = ap is_digit last ∙ not_digit byte odd in
      grind (arith, nat_tests, no_digit)

  long_fault : 15 ≤ length bytes → 48 ≤ byte → byte ≤ 57 → head_fault bytes ≡ TooLong
  long_fault long low high =
      let digit : ends_in_digit bytes ≡ true = ap is_digit last ∙ a_digit byte low high in
      grind (arith, nat_tests, digit)

-- no length is spelled by digits that begin so
abbrev NoDigits : List ℕ → Type 0
NoDigits xs = (n : ℕ) (more rest : List ℕ) → IsLength n → xs ++ more ≡ decimal n ++ 1 ∷ rest → ⊥

digits_lack : (n : ℕ) → n ≤ 297 → Lacks 1 (decimal n)
digits_lack n small = decimal_lacks 1 n (omega arith) (λ h. omega (arith, h))

no_digits_head : (bytes front ds : List ℕ) (byte : ℕ) → bytes ≡ front ++ byte ∷ [] → front ≡ opening ++ ds →
    NoDigits (ds ++ byte ∷ []) → NoHead bytes
no_digits_head bytes front ds byte e opens none n more rest is same =
    none n more rest is (append_cancel_left opening ((ds ++ byte ∷ []) ++ more) (decimal n ++ 1 ∷ rest)
    (ap (λ k. k ++ more) (ap (λ k. k ++ byte ∷ []) (sym opens) ∙ sym e) ∙ same ∙ head-opening n rest))

-- a byte that is neither digit nor SOH
odd_byte : (ds : List ℕ) (byte : ℕ) → Lacks 1 ds → byte ≢ 1 → (48 ≤ byte → byte ≤ 57 → ⊥) → NoDigits (ds ++ byte ∷ [])
odd_byte ds byte l other odd n more rest is same =
    let f = lacking_front 1 (ds ++ byte ∷ []) (decimal n) more rest (lacks_append 1 ds (byte ∷ []) l (
      other,
      tt,
    )) same in
    let long = length_push ds byte in
    let here : get_or (decimal n) (length ds) 0 ≡ byte = sym
    (get_or-take (length (ds ++ byte ∷ [])) (decimal n) (length ds) 0 (omega arith)) ∙
    ap (λ k. get_or k (length ds) 0) (sym f.1) ∙ get_or_push ds byte 0 (length ds) refl in
    let d = decimal_at n (length ds) (length_fits n is) (omega (arith, f.0)) in
    odd (omega (arith, d.0)) (omega (arith, d.1))

-- SOH with no digits before it, or behind a number below 5
soh_first : NoDigits ([] ++ 1 ∷ [])
soh_first n more rest is same =
    let none = (one_cut 1 [] (decimal n) more rest tt (digits_lack n is.1) same).0 in
    absurd (omega (arith, decimal_nonempty n (length_fits n is), ap length none))

soh_early : (v : ℕ) → v < 5 → NoDigits (decimal v ++ 1 ∷ [])
soh_early v few n more rest is same =
    let r = (one_cut 1 (decimal v) (decimal n) more rest (digits_lack v (omega arith)) (digits_lack n is.1)
    (sym (append_assoc (decimal v) (1 ∷ []) more) ∙ same)).0 in
    let v_is = decimal_injective v n (omega arith) (length_fits n is) r in
    omega (arith, is.0)

-- a first digit 0
zero_first : NoDigits ([] ++ 48 ∷ [])
zero_first n more rest is same =
    let f = lacking_front 1 (48 ∷ []) (decimal n) more rest ((λ e. omega (arith, e)), tt) same in
    let here : get_or (decimal n) 0 0 ≡ 48 = sym (get_or-take 1 (decimal n) 0 0 (omega arith)) ∙
    ap (λ k. get_or k 0 0) (sym f.1) in
    absurd (omega (arith, first_decimal n (omega (arith, is.0)) (length_fits n is)))

-- a number above 297
too_large : (w : ℕ) → 297 < w → w < 2 ^ 64 → NoDigits (decimal w)
too_large w large fits n more rest is same =
    let f = lacking_front 1 (decimal w) (decimal n) more rest (decimal_lacks 1 w fits (λ h. omega (arith, h))) same in
    omega (arith, decimal_front w n fits (length_fits n is) f.1, is.1)

-- the length so far is no more than that of a frame that comes in
pub heading_small : (front : List ℕ) (v : ℕ) → IsHeading front v → v ≤ 297
heading_small front v h = elim (cases_lt 12 (length front)) [
  | inl more ↦ (h.counts more).2
  | inr few ↦ omega (arith, (h.opens few).1)
]

-- What one byte behind the opening comes to.
module _ (bytes : List ℕ) (byte v : ℕ) (many : 12 < length bytes) (last_is : byte ≡ get_or bytes (length bytes - 1) 0)
    (h : IsHeading (all_but_last bytes) v) where
  abbrev front : List ℕ
  front = all_but_last bytes

  e : bytes ≡ front ++ byte ∷ []
  e = last_off bytes (omega arith) ∙ ap (λ b. front ++ b ∷ []) (sym last_is)

  long : length bytes ≡ length front + 1
  long = longer bytes front byte v e h

  late : 12 ≤ length front
  late = omega (arith, long)

  -- neither a digit nor SOH: wrong
  pub odd_wrong : byte ≢ 1 → (48 ≤ byte → byte ≤ 57 → ⊥) → IsWrong bytes BadLength
  odd_wrong other odd =
      let f = other_fault bytes front byte v e h (omega (arith, long)) odd in
      let none : NoHead bytes = elim (behind_opening bytes front byte v e h late) [
        | inl b ↦ no_digits_head bytes front [] byte e b.0 (odd_byte [] byte tt other odd)
        | inr b ↦ no_digits_head bytes front (decimal v) byte e b.0
            (odd_byte (decimal v) byte (digits_lack v b.2) other odd)
      ] in
      subst (IsWrong bytes) f (no_head_wrong bytes none)

  -- SOH behind less than 5: wrong
  pub soh_wrong : byte ≡ 1 → v < 5 → IsWrong bytes BadLength
  soh_wrong is few =
      let f = other_fault bytes front byte v e h (omega (arith, long)) (λ low high. omega arith) in
      let e' : bytes ≡ front ++ 1 ∷ [] = e ∙ ap (λ b. front ++ b ∷ []) is in
      let none : NoHead bytes = elim (behind_opening bytes front byte v e h late) [
        | inl b ↦ no_digits_head bytes front [] 1 e' b.0 soh_first
        | inr b ↦ no_digits_head bytes front (decimal v) 1 e' b.0 (soh_early v few)
      ] in
      subst (IsWrong bytes) f (no_head_wrong bytes none)

  -- SOH behind 5 or more: the head is whole
  pub head_whole : byte ≡ 1 → 5 ≤ v → IsResting bytes (length bytes) v
  head_whole is enough = elim (behind_opening bytes front byte v e h late) [
    | inl b ↦ absurd (omega (arith, b.1))
    | inr b ↦
        let head_is : bytes ≡ head v = e ∙ ap (λ k. k ++ byte ∷ []) b.0 ∙
        ap (λ k. opening ++ (decimal v ++ k ∷ [])) is ∙ sym (head-opening v []) ∙ append-nil (head v) in
        let starts : length bytes ≡ length (head v) = ap length head_is in
        record {
          length_is = (enough, b.2);
          headed = take_all (length bytes) bytes (omega arith) ∙ head_is;
          starts = starts;
          short = omega (arith, long);
        }
  ]

  -- a digit
  module _ (low : 48 ≤ byte) (high : byte ≤ 57) where
    -- and what the digits spell then
    digits_then : 1 ≤ v * 10 + (byte - 48) → bytes ≡ opening ++ decimal (v * 10 + (byte - 48))
    digits_then some = elim (behind_opening bytes front byte v e h late) [
      | inl b ↦
          let w : v * 10 + (byte - 48) ≡ byte - 48 = omega (arith, b.1) in
          let d : 48 + (byte - 48) ≡ byte = omega arith in
          e ∙ ap (λ k. k ++ byte ∷ []) b.0 ∙ ap (λ k. opening ++ k ∷ []) (sym d) ∙
          ap (λ k. opening ++ k) (sym (decimal_digit (byte - 48) (omega arith)) ∙ ap decimal (sym w))
      | inr b ↦
          e ∙ ap (λ k. k ++ byte ∷ []) b.0 ∙ ap (λ k. opening ++ k) (sym (decimal_more v byte b.1 (omega (
            arith,
            b.2,
          )) low high))
    ]

    -- a first 0: wrong
    pub zero_wrong : v * 10 + (byte - 48) ≡ 0 → IsWrong bytes BadLength
    zero_wrong zero = elim (behind_opening bytes front byte v e h late) [
      | inl b ↦
          let f = early_fault bytes front byte v e h (omega (arith, long)) (omega (arith, long, ap length b.0)) in
          let e' : bytes ≡ front ++ 48 ∷ [] = e ∙ ap (λ d. front ++ d ∷ []) (let t : byte ≡ 48 = omega arith in t) in
          subst (IsWrong bytes) f (no_head_wrong bytes (no_digits_head bytes front [] 48 e' b.0 zero_first))
      | inr b ↦ absurd (omega (arith, b.1))
    ]

    -- more than 297: wrong
    pub large_wrong : 297 < v * 10 + (byte - 48) → IsWrong bytes TooLong
    large_wrong large =
        let w : ℕ = v * 10 + (byte - 48) in
        let small = heading_small front v h in
        let fits : w < 2 ^ 64 = omega arith in
        let is = digits_then (omega arith) in
        let digits : 3 ≤ length (decimal w) = elim (cases_lt 2 (length (decimal w))) [
          | inl more ↦ omega arith
          | inr few ↦ absurd (omega (arith, decimal_short w 2 fits few))
        ] in
        let f = long_fault bytes front byte v e h (omega (
          arith,
          ap length is,
          length-append opening (decimal w),
        )) low high in
        let none : NoHead bytes = λ n more rest len same. too_large w large fits n more rest len
        (append_cancel_left opening (decimal w ++ more) (decimal n ++ 1 ∷ rest) (ap (λ k. k ++ more) (sym is) ∙
        same ∙ head-opening n rest)) in
        subst (IsWrong bytes) f (no_head_wrong bytes none)

    -- else a digit more
    pub digit_more : 1 ≤ v * 10 + (byte - 48) → v * 10 + (byte - 48) ≤ 297 → IsHeading bytes (v * 10 + (byte - 48))
    digit_more some few = record {
      opens = λ early. absurd (omega (arith, long));
      counts = λ _. (digits_then some, some, few);
    }

-- A byte of the opening.
module _ (bytes : List ℕ) (v : ℕ) (some : 0 < length bytes) (early : length bytes ≤ 12)
    (h : IsHeading (all_but_last bytes) v) where
  abbrev before : List ℕ
  before = all_but_last bytes

  abbrev final : ℕ
  final = get_or bytes (length bytes - 1) 0

  split : bytes ≡ before ++ final ∷ []
  split = last_off bytes some

  place : length before ≡ length bytes - 1
  place = omega (arith, longer bytes before final v split h)

  module _ (other : final ≢ get_or opening (length bytes - 1) 0) where
    none : NoHead bytes
    none = no_opening bytes before final v split h (omega (arith, place)) (λ e. other (e ∙
        ap (λ k. get_or opening k 0) place))

    -- a wrong one of BeginString, and of what follows
    pub begin_wrong : length bytes ≤ 10 → IsWrong bytes BadBegin
    begin_wrong few = subst (IsWrong bytes) (begin_fault bytes before final v split h few) (no_head_wrong bytes none)

    pub length_wrong : 10 < length bytes → IsWrong bytes BadLength
    length_wrong more = subst (IsWrong bytes) (early_fault bytes before final v split h more (omega arith))
        (no_head_wrong bytes none)

-- a digit more behind the opening, in front of more bytes
pub heading_digit : (bytes : List ℕ) (at v : ℕ) → 12 ≤ at → at < length bytes → IsHeading (take at bytes) v
    → 48 ≤ get_or bytes at 0 → get_or bytes at 0 ≤ 57 → 1 ≤ v * 10 + (get_or bytes at 0 - 48)
    → v * 10 + (get_or bytes at 0 - 48) ≤ 297
    → IsHeading (take (at + 1) bytes) (v * 10 + (get_or bytes at 0 - 48))
heading_digit bytes at v late within h low high some few =
    let long : length (take (at + 1) bytes) ≡ at + 1 = omega (arith, length-take (at + 1) bytes) in
    let place : length (take (at + 1) bytes) - 1 ≡ at = omega arith in
    let last : get_or bytes at 0 ≡ get_or (take (at + 1) bytes) (length (take (at + 1) bytes) - 1) 0 =
    sym (ap (λ k. get_or (take (at + 1) bytes) k 0) place ∙ get_or-take (at + 1) bytes at 0 (omega arith)) in
    digit_more (take (at + 1) bytes) (get_or bytes at 0) v (omega arith) last (subst (λ k. IsHeading k v)
    (sym (all_but_last-take bytes at within)) h) low high some few
