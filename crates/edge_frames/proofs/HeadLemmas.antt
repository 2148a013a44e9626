-- Heads: what they look like, and that one stands at a front.
use Rattle.std.proofs.Common.{◌≡◌, ℕ, ◌+◌, ◌<◌, ◌≤◌, ◌^◌, List, [], ◌∷◌, ◌++◌, length, take, drop, true, false}
use Rattle.std.proofs.Common.{◌&&◌, ◌||◌, ◌==◌, Some, refl, ap, sym, ◌∙◌, subst, inl, inr, arith, length-append}
use Rattle.std.specs.Prelude.{nat_le}
use Rattle.std.specs.List.{list_all, position}
use Rattle.std.proofs.lemmas.Bool.{and_parts}
use Rattle.std.proofs.lemmas.Bool.Decides.{nat_tests}
use Rattle.std.proofs.lemmas.List.{append_cancel_left, append_assoc, drop_at, length-take-le}
use Rattle.fix_frame.specs.Ascii.{is_digit}
use Rattle.fix_frame.specs.Grammar.{LacksSoh}
use Rattle.fix_frame.specs.Stages.{opening}
use Rattle.edge_frames.specs.Fields.{ended, is_digits}
use Rattle.edge_frames.specs.Messages.{head_with, length_of}
use Rattle.edge_frames.specs.Stream.{begins_length, StartsHead}
use Rattle.edge_frames.specs.Heads.{HasNoHead, HasWholeHead}
use Rattle.edge_frames.specs.Pieces.{SplitsOff, ReadsNumber}
use Rattle.edge_frames.proofs.NumberLemmas.{all_small}
use Rattle.edge_frames.proofs.PieceLemmas.{ended_cut, ended_lacks, digits_lack, splits_off, some_at}

-- the parts of the test
pub number_parts : (most : ℕ) (ds : List ℕ) → is_digits most ds ≡ true →
    (1 ≤ length ds) × (length ds ≤ most) × (list_all is_digit ds ≡ true)
number_parts most ds is =
    let p = and_parts (nat_le 1 (length ds)) (nat_le (length ds) most && list_all is_digit ds) is in
    let q = and_parts (nat_le (length ds) most) (list_all is_digit ds) p.1 in
    let some : 1 ≤ length ds = grind (arith, nat_tests, p.0) in
    let few : length ds ≤ most = grind (arith, nat_tests, q.0) in
    (some, few, q.1)

pub number_lacks : (most : ℕ) (ds : List ℕ) → is_digits most ds ≡ true → LacksSoh ds
number_lacks most ds is = digits_lack ds (number_parts most ds is).2

pub length_small : (ds : List ℕ) → is_digits 9 ds ≡ true → length_of ds < 10 ^ 9
length_small ds is = let p = number_parts 9 ds is in all_small ds p.1 p.2

-- a head is the opening, the digits and SOH
pub head-opening : (ds rest : List ℕ) → head_with ds ++ rest ≡ opening ++ (ds ++ 1 ∷ rest)
head-opening ds rest = ap (λ k. opening ++ k) (append_assoc ds (1 ∷ []) rest)

pub length-head : (ds : List ℕ) → length (head_with ds) ≡ 13 + length ds
length-head ds = omega (arith, length-append ds (1 ∷ []))

-- bytes fewer than the opening's are no head
pub short_none : (bytes : List ℕ) → length bytes < 12 → (bytes ≡ take (length bytes) opening → ⊥) →
    (StartsHead bytes → ⊥) × HasNoHead bytes
short_none bytes short odd = (
  λ b. elim b [
    | inl so ↦ odd so.1
    | inr digits ↦ absurd (omega (arith, short, ap length digits.1, length-append opening digits.0))
  ],
  λ ds rest is e. absurd (omega (arith, short, ap length e, length-append (head_with ds) rest, length-head ds)),
)

-- nor are such as have another front
pub other_none : (bytes : List ℕ) → 12 ≤ length bytes → (take 12 bytes ≡ opening → ⊥) →
    (StartsHead bytes → ⊥) × HasNoHead bytes
other_none bytes long odd = (
  λ b. elim b [
    | inl so ↦ absurd (omega (arith, long, so.0))
    | inr digits ↦ odd (ap (take 12) digits.1)
  ],
  λ ds rest is e. odd (ap (take 12) (e ∙ head-opening ds rest)),
)

module _ (bytes behind : List ℕ) (e : bytes ≡ opening ++ behind) where
  -- what stands behind the opening of a head
  pub behind_head : (ds rest : List ℕ) → is_digits 9 ds ≡ true → bytes ≡ head_with ds ++ rest →
      (behind ≡ ds ++ 1 ∷ rest) × (ended behind ≡ ds ∷ ended rest)
  behind_head ds rest is h =
      let same = append_cancel_left opening behind (ds ++ 1 ∷ rest) (sym e ∙ h ∙ head-opening ds rest) in
      (same, ap ended same ∙ ended_cut ds rest (number_lacks 9 ds is))

  -- what begins a head so far
  pub begins_digits : StartsHead bytes → begins_length behind ≡ true
  begins_digits b = elim b [
    | inl short ↦ absurd (omega (arith, short.0, ap length e, length-append opening behind))
    | inr digits ↦
        let same = append_cancel_left opening behind digits.0 (sym e ∙ digits.1) in
        subst (λ (k : List ℕ). begins_length k ≡ true) (sym same) digits.2
  ]

  -- without SOH no head is there, and without digits none begins
  pub no_length : begins_length behind ≡ false → ended behind ≡ [] → (StartsHead bytes → ⊥) × HasNoHead bytes
  no_length odd none = (
    λ b. let is = begins_digits b in let both : true ≡ false = sym is ∙ odd in absurd (cc),
    λ ds rest is h.
        let b = behind_head ds rest is h in let both : [] ≡ ds ∷ ended rest = sym none ∙ b.1 in absurd (cc),
  )

begins_lacks : (ds : List ℕ) → begins_length ds ≡ true → LacksSoh ds
begins_lacks [] is = tt
begins_lacks (d ∷ ds) is =
    let some : (length (d ∷ ds) == 0) ≡ false = grind (arith, nat_tests) in
    let number : is_digits 9 (d ∷ ds) ≡ true = sym (ap (λ t. t || is_digits 9 (d ∷ ds)) some) ∙ is in
    number_lacks 9 (d ∷ ds) number

pub begins_short : (ds : List ℕ) → begins_length ds ≡ true → length ds ≤ 9
begins_short [] is = omega arith
begins_short (d ∷ ds) is =
    let some : (length (d ∷ ds) == 0) ≡ false = grind (arith, nat_tests) in
    let number : is_digits 9 (d ∷ ds) ≡ true = sym (ap (λ t. t || is_digits 9 (d ∷ ds)) some) ∙ is in
    (number_parts 9 (d ∷ ds) number).1

-- a head at the front
pub has_head : (bytes rest ds : List ℕ) → is_digits 9 ds ≡ true → bytes ≡ head_with ds ++ rest →
    HasWholeHead bytes (length (head_with ds)) (length_of ds)
has_head bytes rest ds is e = record {
  digits = ds;
  number = is;
  value = refl;
  headed = e ∙ ap (λ k. head_with ds ++ k) (sym (ap (drop (length (head_with ds))) e ∙
      drop_at (head_with ds) rest (length (head_with ds)) refl));
  long = refl;
}

module _ (bytes behind piece rest : List ℕ) (e : bytes ≡ opening ++ behind) (s : SplitsOff behind piece rest) where
  -- behind the opening a number that SOH ends
  is_head : is_digits 9 piece ≡ true → HasWholeHead bytes (length (head_with piece)) (length_of piece)
  is_head is =
      has_head bytes rest piece is (e ∙ ap (λ k. opening ++ k) s.spells ∙ sym (head-opening piece rest))

  not_begins : StartsHead bytes → ⊥
  not_begins b =
      let digits = begins_digits bytes behind e b in
      let none = ended_lacks behind (begins_lacks behind digits) in
      let odd : [] ≡ piece ∷ ended rest = sym none ∙ s.first in absurd (cc)

  -- anything else that SOH ends
  pub no_head : is_digits 9 piece ≡ false → (StartsHead bytes → ⊥) × HasNoHead bytes
  no_head not = (
    not_begins,
    λ ds more is h.
        let b = behind_head bytes behind e ds more is h in
        let both : ds ∷ ended more ≡ piece ∷ ended rest = sym b.1 ∙ s.first in
        let same : ds ≡ piece = cc in
        let odd : true ≡ false = sym is ∙ ap (is_digits 9) same ∙ not in absurd (cc),
  )

pub found_head : (bytes behind : List ℕ) (at n : ℕ) → bytes ≡ opening ++ behind →
    position (λ b. b == 1) behind ≡ Some at → ReadsNumber 9 (take at behind) n → HasWholeHead bytes (12 + at + 1) n
found_head bytes behind at n e p r =
    let s = splits_off behind at p in
    let h = is_head bytes behind (take at behind) (drop (at + 1) behind) e s r.is in
    let there = some_at (λ b. b == 1) behind at p in
    let short : at ≤ length behind = omega (arith, there.0, there.1) in
    let long : length (head_with (take at behind)) ≡ 12 + at + 1 = omega (
      arith,
      length-head (take at behind),
      length-take-le at behind short,
    ) in
    subst (λ (m : ℕ). HasWholeHead bytes (12 + at + 1) m) (sym r.value)
    (subst (λ (k : ℕ). HasWholeHead bytes k (length_of (take at behind))) long h)

-- one head stands at a front
pub one_head : (ds es rest more : List ℕ) → is_digits 9 ds ≡ true → is_digits 9 es ≡ true →
    head_with ds ++ rest ≡ head_with es ++ more → (ds ≡ es) × (rest ≡ more)
one_head ds es rest more is is' e =
    let b = behind_head (head_with ds ++ rest) (ds ++ 1 ∷ rest) (head-opening ds rest) es more is' e in
    let both : ds ∷ ended rest ≡ es ∷ ended more = sym (ended_cut ds rest (number_lacks 9 ds is)) ∙ b.1 in
    let same : ds ≡ es = cc in
    (same, append_cancel_left (head_with es) rest more (ap (λ k. head_with k ++ rest) (sym same) ∙ e))

-- and where one stands, none is under way
pub whole_head : (ds bytes rest : List ℕ) → is_digits 9 ds ≡ true → bytes ≡ head_with ds ++ rest → StartsHead bytes → ⊥
whole_head ds bytes rest is e =
    not_begins bytes (ds ++ 1 ∷ rest) ds rest (e ∙ head-opening ds rest) (record {
      spells = refl;
      first = ended_cut ds rest (number_lacks 9 ds is);
    })
