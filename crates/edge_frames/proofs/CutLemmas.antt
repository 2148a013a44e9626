-- Cuts of a stream: there is one, and it goes on as more comes.
use Rattle.std.proofs.Common.{◌≡◌, ℕ, ◌+◌, ◌<◌, ◌≤◌, List, [], ◌∷◌, ◌++◌, length, take, drop, Bool, true, false}
use Rattle.std.proofs.Common.{◌||◌, ◌==◌, cond, refl, ap, sym, ◌∙◌, subst, inl, inr, arith, length-append}
use Rattle.std.specs.List.{list_all}
use Rattle.std.proofs.lemmas.Bool.{cases_lt, and_parts, and_from}
use Rattle.std.proofs.lemmas.Bool.Decides.{nat_tests}
use Rattle.std.proofs.lemmas.List.{append_assoc, take_at, take-append-drop, length-take, take-take}
use Rattle.std.proofs.lemmas.List.Folds.{list_all-append}
use Rattle.std.proofs.Math.Seq.{take-append_seam}
use Rattle.fix_frame.specs.Ascii.{is_digit}
use Rattle.fix_frame.specs.Grammar.{trailer}
use Rattle.fix_frame.specs.Stages.{opening}
use Rattle.edge_frames.specs.Fields.{ended, onto_ended, is_digits, tag_of, may_stand, are_fields}
use Rattle.edge_frames.specs.Messages.{head_with, length_of, IsBodyLength}
use Rattle.edge_frames.specs.Stream.{begins_length, StartsHead, MayBegin, Come, IsPassed, ArePassed, WaitsFor}
use Rattle.edge_frames.specs.Stream.{Yields}
use Rattle.edge_frames.proofs.HeadLemmas.{length-head, number_parts}
use Rattle.edge_frames.proofs.BeginLemmas.{frame_parts, length-trailer}

-- the shorter front of a list is a front of the longer
pub longer_front : (xs ys us vs : List ℕ) → xs ++ ys ≡ us ++ vs → length xs ≤ length us →
    (zs : List ℕ) × (us ≡ xs ++ zs) × (ys ≡ zs ++ vs)
longer_front [] ys us vs e le = (us, refl, e)
longer_front (x ∷ xs) ys [] vs e le = absurd (omega (arith, le))
longer_front (x ∷ xs) ys (u ∷ us) vs e le =
    let r = longer_front xs ys us vs (cc) (omega (arith, le)) in
    (r.0, cc r.1, r.2)

-- a byte onto the pieces of a longer list
onto_more : (b : ℕ) (ps more : List (List ℕ)) →
    (others : List (List ℕ)) × (onto_ended b (ps ++ more) ≡ onto_ended b ps ++ others)
onto_more b [] more = (onto_ended b more, refl)
onto_more b (p ∷ ps) more = (more, refl)

more_step : (t : Bool) (b : ℕ) (ps qs more : List (List ℕ)) → qs ≡ ps ++ more →
    (others : List (List ℕ)) × (cond t ([] ∷ qs) (onto_ended b qs) ≡ cond t ([] ∷ ps) (onto_ended b ps) ++ others)
more_step true b ps qs more e = (more, ap (λ k. [] ∷ k) e)
more_step false b ps qs more e =
    let r = onto_more b ps more in (r.0, ap (onto_ended b) e ∙ r.1)

-- more bytes end more pieces
ended_more : (xs ys : List ℕ) → (more : List (List ℕ)) × (ended (xs ++ ys) ≡ ended xs ++ more)
unfolding ended
ended_more [] ys = (ended ys, refl)
ended_more (x ∷ xs) ys =
    let r = ended_more xs ys in more_step (x == 1) x (ended xs) (ended (xs ++ ys)) r.0 r.1

fields_front : (ps more : List (List ℕ)) → are_fields (ps ++ more) ≡ true → are_fields ps ≡ true
fields_front [] more is = refl
fields_front (p ∷ ps) more is =
    let a = and_parts (tag_of p == 35) (list_all may_stand (ps ++ more)) is in
    let b = and_parts (list_all may_stand ps) (list_all may_stand more)
    (sym (list_all-append may_stand ps more) ∙ a.1) in
    and_from _ _ a.0 b.0

pub fields_before : (xs ys : List ℕ) → are_fields (ended (xs ++ ys)) ≡ true → are_fields (ended xs) ≡ true
fields_before xs ys is =
    let r = ended_more xs ys in fields_front (ended xs) r.0 (ap are_fields (sym r.1) ∙ is)

digits_front : (xs ys : List ℕ) → list_all is_digit (xs ++ ys) ≡ true → list_all is_digit xs ≡ true
digits_front xs ys is =
    (and_parts (list_all is_digit xs) (list_all is_digit ys) (sym (list_all-append is_digit xs ys) ∙ is)).0

begins_digits : (ds : List ℕ) → length ds ≤ 9 → list_all is_digit ds ≡ true → begins_length ds ≡ true
begins_digits [] few is = refl
begins_digits (d ∷ ds) few is =
    let some : (length (d ∷ ds) == 0) ≡ false = grind (arith, nat_tests) in
    let number : is_digits 9 (d ∷ ds) ≡ true = grind (arith, nat_tests, few, is) in
    ap (λ t. t || is_digits 9 (d ∷ ds)) some ∙ number

-- the front of a head begins one
pub head_front : (bytes more ds rest : List ℕ) → is_digits 9 ds ≡ true → bytes ++ more ≡ head_with ds ++ rest →
    length bytes < length (head_with ds) → StartsHead bytes
head_front bytes more ds rest is e less =
    let parts = number_parts 9 ds is in
    let short : length bytes ≤ length (opening ++ ds) = omega (
      arith,
      less,
      length-head ds,
      length-append opening ds,
    ) in
    let same : bytes ++ more ≡ (opening ++ ds) ++ (1 ∷ rest) = e ∙
    ap (λ k. opening ++ k) (append_assoc ds (1 ∷ []) rest) ∙
    sym (append_assoc opening ds (1 ∷ rest)) in
    let front = longer_front bytes more (opening ++ ds) (1 ∷ rest) same short in
    elim (cases_lt (length bytes) 12) [
      | inl few ↦
          let inside = longer_front bytes front.0 opening ds (sym front.1) (omega (arith, few)) in
          inl (few, sym (ap (take (length bytes)) inside.1 ∙ take-append_seam bytes inside.0))
      | inr many ↦
          let behind = longer_front opening ds bytes front.0 front.1 (omega (arith, many)) in
          inr (
            behind.0,
            behind.1,
            begins_digits behind.0
                (omega (arith, parts.1, ap length behind.2, length-append behind.0 front.0))
                (digits_front behind.0 front.0 (ap (list_all is_digit) (sym behind.2) ∙ parts.2)),
          )
    ]

-- the front of a message, or of what begins one, begins one
pub front_opens : (longest : ℕ) (bytes more ds part : List ℕ) → IsBodyLength longest ds →
    bytes ++ more ≡ head_with ds ++ part → are_fields (ended (take (length_of ds) part)) ≡ true →
    length bytes < length (head_with ds) + (length_of ds + 7) → MayBegin longest bytes
front_opens longest bytes more ds part long e fine less =
    elim (cases_lt (length bytes) (length (head_with ds))) [
      | inl short ↦ inl (head_front bytes more ds part long.number e short)
      | inr whole ↦
          let behind = longer_front (head_with ds) part bytes more (sym e) whole in
          let n : ℕ = length_of ds in
          let first = longer_front (take n behind.0) (drop n behind.0 ++ more) (take n part) (drop n part)
          (sym (append_assoc (take n behind.0) (drop n behind.0) more) ∙
          ap (λ k. k ++ more) (take-append-drop n behind.0) ∙ sym behind.2 ∙ sym (take-append-drop n part))
          (omega (
            arith,
            length-take n behind.0,
            length-take n part,
            ap length behind.2,
            length-append behind.0 more,
          )) in
          inr (
            ds,
            behind.0,
            record {
              long = long;
              headed = behind.1;
              more = omega (arith, less, ap length behind.1, length-append (head_with ds) behind.0);
              fields = fields_before (take n behind.0) first.0 (ap (λ k. are_fields (ended k)) (sym first.1) ∙ fine);
            },
          )
    ]

begins_front : (ds more : List ℕ) → begins_length (ds ++ more) ≡ true → begins_length ds ≡ true
begins_front [] more is = refl
begins_front (d ∷ ds) more is =
    let some : (length (d ∷ ds ++ more) == 0) ≡ false = grind (arith, nat_tests) in
    let number : is_digits 9 (d ∷ ds ++ more) ≡ true = sym (ap (λ t. t || is_digits 9 (d ∷ ds ++ more)) some) ∙ is in
    let parts = number_parts 9 (d ∷ ds ++ more) number in
    begins_digits (d ∷ ds) (omega (arith, parts.1, length-append (d ∷ ds) more)) (digits_front (d ∷ ds) more parts.2)

-- a head that begins in more bytes begins in fewer
head_longer : (bytes more : List ℕ) → StartsHead (bytes ++ more) → StartsHead bytes
head_longer bytes more b = elim b [
  | inl short ↦
      let few : length bytes < 12 = omega (arith, short.0, length-append bytes more) in
      let size : length bytes ≤ length (bytes ++ more) = omega (arith, length-append bytes more) in
      inl (
        few,
        sym (take-append_seam bytes more) ∙ ap (take (length bytes)) short.1 ∙
            take-take (length bytes) (length (bytes ++ more)) opening size,
      )
  | inr digits ↦ elim (cases_lt (length bytes) 12) [
    | inl few ↦
        let inside = longer_front bytes more opening digits.0 digits.1 (omega (arith, few)) in
        inl (few, sym (ap (take (length bytes)) inside.1 ∙ take-append_seam bytes inside.0))
    | inr many ↦
        let behind = longer_front opening digits.0 bytes more (sym digits.1) (omega (arith, many)) in
        let begun : begins_length (behind.0 ++ more) ≡ true = ap begins_length (sym behind.2) ∙ digits.2 in
        inr (behind.0, behind.1, begins_front behind.0 more begun)
  ]
]

-- what is passed over is passed over for good
pub passed_longer : (longest most : ℕ) (bytes more : List ℕ) → IsPassed longest most bytes →
    IsPassed longest most (bytes ++ more)
passed_longer longest most bytes more p = record {
  shut = λ o. elim o [
    | inl b ↦ p.shut (inl (head_longer bytes more b))
    | inr part ↦
        let b = part.2 in
        p.shut (front_opens longest bytes more part.0 part.1 b.long b.headed b.fields (omega (
          arith,
          b.more,
          ap length b.headed,
          length-append bytes more,
          length-append (head_with part.0) part.1,
        )))
  ];
  none = λ c rest comes e. elim (cases_lt (length bytes) (length c.text)) [
    | inl short ↦
        let ds = comes.digits in
        let body = comes.body in
        let behind : List ℕ = body ++ (trailer (head_with ds ++ body) ++ rest) in
        let parts : bytes ++ more ≡ head_with ds ++ behind = e ∙ ap (λ k. k ++ rest) comes.spells ∙
        frame_parts ds body rest in
        let front : take (length_of ds) behind ≡ body =
        take_at body (trailer (head_with ds ++ body) ++ rest) (length_of ds)
        (sym comes.right.exact) in
        p.shut (front_opens longest bytes more ds behind comes.right.long parts
        (ap (λ k. are_fields (ended k)) front ∙ comes.right.fields) (omega (
          arith,
          short,
          ap length comes.spells,
          length-append (head_with ds ++ body) (trailer (head_with ds ++ body)),
          length-append (head_with ds) body,
          length-trailer (head_with ds ++ body),
          comes.right.exact,
        )))
    | inr whole ↦
        let front = longer_front c.text rest bytes more (sym e) whole in
        p.none c front.0 comes front.1
  ];
}

pub all_longer : (longest most : ℕ) (bytes rest more : List ℕ) → ArePassed longest most bytes rest →
    ArePassed longest most bytes (rest ++ more)
all_longer longest most [] rest more all = tt
all_longer longest most (b ∷ bytes) rest more all = (
  subst (λ (k : List ℕ). IsPassed longest most (b ∷ k)) (append_assoc bytes rest more)
      (passed_longer longest most (b ∷ bytes ++ rest) more all.0),
  all_longer longest most bytes rest more all.1,
)

pub all_joined : (longest most : ℕ) (xs ys rest : List ℕ) → ArePassed longest most xs (ys ++ rest) →
    ArePassed longest most ys rest → ArePassed longest most (xs ++ ys) rest
all_joined longest most [] ys rest first then = then
all_joined longest most (x ∷ xs) ys rest first then = (
  subst (λ (k : List ℕ). IsPassed longest most (x ∷ k)) (sym (append_assoc xs ys rest)) first.0,
  all_joined longest most xs ys rest first.1 then,
)

-- what waits, and what comes behind it
module _ (longest most : ℕ) (stream before rest more : List ℕ) (w : WaitsFor longest most stream before rest) where
  joined : (ys zs : List ℕ) → rest ++ more ≡ ys ++ zs → stream ++ more ≡ (before ++ ys) ++ zs
  joined ys zs e =
      ap (λ k. k ++ more) w.whole ∙ append_assoc before rest more ∙ ap (λ k. before ++ k) e ∙
      sym (append_assoc before ys zs)

  passed_both : (ys zs : List ℕ) → rest ++ more ≡ ys ++ zs → ArePassed longest most ys zs →
      ArePassed longest most (before ++ ys) zs
  passed_both ys zs e all =
      all_joined longest most before ys zs (subst (λ (k : List ℕ). ArePassed longest most before k) e
      (all_longer longest most before rest more w.passed)) all

  waits_on : (cs : List Come) (last : List ℕ) → Yields longest most (rest ++ more) cs last →
      Yields longest most (stream ++ more) cs last
  waits_on [] last (ys, v) = (
    before ++ ys,
    record { whole = joined ys last v.whole; passed = passed_both ys last v.whole v.passed; opens = v.opens },
  )
  waits_on (c ∷ cs) last (ys, behind, f, cut) = (
    before ++ ys,
    behind,
    record {
      whole = joined ys (c.text ++ behind) f.whole;
      passed = passed_both ys (c.text ++ behind) f.whole f.passed;
      comes = f.comes;
    },
    cut,
  )

-- the cut of a longer stream begins with that of the shorter, and goes on from the rest
pub goes_on : (longest most : ℕ) (stream more : List ℕ) (cs ds : List Come) (rest last : List ℕ) →
    Yields longest most stream cs rest → Yields longest most (rest ++ more) ds last →
    Yields longest most (stream ++ more) (cs ++ ds) last
goes_on longest most stream more [] ds rest last (before, w) next =
    waits_on longest most stream before rest more w ds last next
goes_on longest most stream more (c ∷ cs) ds rest last (before, behind, f, cut) next = (
  before,
  behind ++ more,
  record {
    whole = ap (λ k. k ++ more) f.whole ∙ append_assoc before (c.text ++ behind) more ∙
        ap (λ k. before ++ k) (append_assoc c.text behind more);
    passed = subst (λ (k : List ℕ). ArePassed longest most before k) (append_assoc c.text behind more)
        (all_longer longest most before (c.text ++ behind) more f.passed);
    comes = f.comes;
  },
  goes_on longest most behind more cs ds rest last cut next,
)
