-- Pieces: the first that SOH ends, and what is behind it.
use Rattle.std.proofs.Common.{◌≡◌, ◌≢◌, ℕ, suc, ◌+◌, ◌<◌, ◌≤◌, List, [], ◌∷◌, ◌++◌, length, take, drop, get_or}
use Rattle.std.proofs.Common.{Bool, true, false, cond, not, ◌==◌, None, Some, refl, ap, sym, ◌∙◌, inl, inr, arith}
use Rattle.std.proofs.Common.{length-append}
use Rattle.std.specs.List.{position, position_or_len, before_first, after_first, list_all}
use Rattle.std.proofs.lemmas.Bool.{cases_lt, lt-ltb, eqb-true, and_parts}
use Rattle.std.proofs.lemmas.Bool.Decides.{nat_tests}
use Rattle.std.proofs.lemmas.Option.{none-some}
use Rattle.std.proofs.lemmas.List.Quantifiers.{position-Some}
use Rattle.std.proofs.lemmas.List.Sums.{split_at_first, passes_at_first, position_or_len_is}
use Rattle.edge_frames.specs.Fields.{ended, onto_ended}
use Rattle.edge_frames.specs.Pieces.{SplitsOff}
use Rattle.fix_frame.specs.Ascii.{is_digit}
use Rattle.fix_frame.specs.Grammar.{LacksSoh}
use Rattle.edge_frames.proofs.NumberLemmas.{digit_is}

other_byte : (b : ℕ) → b ≢ 1 → (b == 1) ≡ false
other_byte b h = grind (arith, nat_tests)

-- where the first element stands that passes
pub some_at : (p : ℕ → Bool) (xs : List ℕ) (at : ℕ) → position p xs ≡ Some at →
    (at ≡ position_or_len p xs) × (position_or_len p xs < length xs)
some_at p xs at e =
    let s = position-Some p xs at 0 e in
    let same : position_or_len p xs ≡ at = position_or_len_is p xs at 0 (omega (arith, s.0)) s.2 (λ _. s.1) in
    (sym same, omega (arith, s.0, same))

pub none_at : (p : ℕ → Bool) (xs : List ℕ) → position p xs ≡ None → length xs ≤ position_or_len p xs
none_at p xs e = elim (cases_lt (position_or_len p xs) (length xs)) [
  | inl less ↦
      let some : position p xs ≡ Some (position_or_len p xs) =
      ap (λ t. cond t (Some (position_or_len p xs)) None) (lt-ltb (position_or_len p xs) (length xs) less) in
      absurd (none-some (position_or_len p xs) (sym e ∙ some))
  | inr all ↦ all
]

-- one byte more in front
first_step : (t : Bool) (x : ℕ) (xs : List ℕ) (n : ℕ) →
    (n < length xs → ended xs ≡ take n xs ∷ ended (drop (n + 1) xs)) →
    cond (not t) (1 + n) 0 < length (x ∷ xs) →
    cond t ([] ∷ ended xs) (onto_ended x (ended xs)) ≡
    take (cond (not t) (1 + n) 0) (x ∷ xs) ∷ ended (drop (cond (not t) (1 + n) 0 + 1) (x ∷ xs))
first_step true x xs n h less = refl
first_step false x xs n h less =
    let e : 1 + n ≡ suc n = omega arith in
    let f : suc n + 1 ≡ suc (n + 1) = omega arith in
    rw e (rw f (ap (onto_ended x) (h (omega (arith, less)))))

-- the first piece and those behind it
pub ended_first : (xs : List ℕ) → position_or_len (λ b. b == 1) xs < length xs →
    ended xs ≡ before_first (λ b. b == 1) xs ∷ ended (after_first (λ b. b == 1) xs)
unfolding ended
ended_first [] less = absurd (omega (arith, less))
ended_first (x ∷ xs) less = first_step (x == 1) x xs (position_or_len (λ b. b == 1) xs) (ended_first xs) less

none_step : (t : Bool) (x : ℕ) (xs : List ℕ) (n : ℕ) → (length xs ≤ n → ended xs ≡ []) →
    length (x ∷ xs) ≤ cond (not t) (1 + n) 0 → cond t ([] ∷ ended xs) (onto_ended x (ended xs)) ≡ []
none_step true x xs n h less = absurd (omega (arith, less))
none_step false x xs n h less = ap (onto_ended x) (h (omega (arith, less)))

-- without SOH there is none
pub ended_none : (xs : List ℕ) → length xs ≤ position_or_len (λ b. b == 1) xs → ended xs ≡ []
unfolding ended
ended_none [] less = refl
ended_none (x ∷ xs) less = none_step (x == 1) x xs (position_or_len (λ b. b == 1) xs) (ended_none xs) less

pub splits_off : (xs : List ℕ) (at : ℕ) → position (λ b. b == 1) xs ≡ Some at →
    SplitsOff xs (take at xs) (drop (at + 1) xs)
splits_off xs at e =
    let s = some_at (λ b. b == 1) xs at e in
    let n : ℕ = position_or_len (λ b. b == 1) xs in
    let is_soh : get_or xs n 0 ≡ 1 = eqb-true (get_or xs n 0) 1 (passes_at_first (λ b. b == 1) xs 0 s.1) in
    rw s.0 (record {
      spells = split_at_first (λ b. b == 1) xs 0 s.1 ∙ ap (λ k. take n xs ++ k ∷ drop (n + 1) xs) is_soh;
      first = ended_first xs s.1;
    })

-- a piece in front of others
pub ended_cut : (xs rest : List ℕ) → LacksSoh xs → ended (xs ++ 1 ∷ rest) ≡ xs ∷ ended rest
unfolding ended
ended_cut [] rest l = refl
ended_cut (x ∷ xs) rest l =
    ap (λ t. cond t ([] ∷ ended (xs ++ 1 ∷ rest)) (onto_ended x (ended (xs ++ 1 ∷ rest)))) (other_byte x l.0) ∙
    ap (onto_ended x) (ended_cut xs rest l.1)

pub ended_lacks : (xs : List ℕ) → LacksSoh xs → ended xs ≡ []
unfolding ended
ended_lacks [] l = refl
ended_lacks (x ∷ xs) l =
    ap (λ t. cond t ([] ∷ ended xs) (onto_ended x (ended xs))) (other_byte x l.0) ∙
    ap (onto_ended x) (ended_lacks xs l.1)

-- digits have no SOH among them
pub digits_lack : (xs : List ℕ) → list_all is_digit xs ≡ true → LacksSoh xs
digits_lack [] is = tt
digits_lack (x ∷ xs) is =
    let p = and_parts _ _ is in
    let d = digit_is x p.0 in
    ((λ e. omega (arith, d, e)), digits_lack xs p.1)

-- a piece is shorter than the bytes that begin with it
pub shorter : (xs piece rest : List ℕ) → SplitsOff xs piece rest → length piece + 1 + length rest ≡ length xs
shorter xs piece rest s = omega (arith, ap length s.spells, length-append piece (1 ∷ rest))
