-- The name of a gateway's client, digit by digit.
use Rattle.std.proofs.Common.{◌≡◌, ℕ, ◌+◌, ◌/◌, ◌%◌, ◌<◌, ◌≤◌, List, [], ◌∷◌, ◌++◌, length, slice_index_or}
use Rattle.std.proofs.Common.{nat_eq, ◌==◌, ap, sym, ◌∙◌, arith}
use Rattle.std.proofs.Math.Bool.{and-true}
use Rattle.std.specs.Str.{bytes_eq}
use Rattle.std.specs.Fmt.{decimal}
use Rattle.std.proofs.lemmas.Fmt.{decimal_digit, decimal_step}
use Rattle.gateway.specs.Verdict.{client_name}

-- a number's digits
one_digit : (n : ℕ) → n < 10 → decimal n ≡ (48 + n % 10) ∷ []
one_digit n small = let same : n ≡ n % 10 = omega arith in decimal_digit n small ∙ ap (λ k. (48 + k) ∷ []) same

two_digits : (n : ℕ) → 10 ≤ n → n < 100 → decimal n ≡ (48 + n / 10 % 10) ∷ (48 + n % 10) ∷ []
two_digits n large small = rw (decimal_step n large (omega arith), one_digit (n / 10) (omega arith))

three_digits : (n : ℕ) → 100 ≤ n → n < 1000 → decimal n ≡ (48 + n / 100) ∷ (48 + n / 10 % 10) ∷ (48 + n % 10) ∷ []
three_digits n large small =
    let tens : n / 10 / 10 % 10 ≡ n / 100 = omega arith in
    rw (decimal_step n (omega arith) (omega arith), two_digits (n / 10) (omega arith) (omega arith), tens)

module _ (n : ℕ) (start : List ℕ) (begun : start ≡ [] ++ 67 ∷ []) where
  pub named_by_one : (last : List ℕ) → n < 10 → last ≡ start ++ (48 + n % 10) ∷ [] → last ≡ client_name n
  named_by_one last small last_is = rw (last_is, begun, one_digit n small)

  pub named_by_two : (mid last : List ℕ) → 10 ≤ n → n < 100 → mid ≡ start ++ (48 + n / 10 % 10) ∷ []
      → last ≡ mid ++ (48 + n % 10) ∷ [] → last ≡ client_name n
  named_by_two mid last large small mid_is last_is = rw (last_is, mid_is, begun, two_digits n large small)

  pub named_by_three : (big mid last : List ℕ) → 100 ≤ n → n < 1000 → big ≡ start ++ (48 + n / 100) ∷ []
      → mid ≡ big ++ (48 + n / 10 % 10) ∷ [] →
      last ≡ mid ++ (48 + n % 10) ∷ [] → last ≡ client_name n
  named_by_three big mid last large small big_is mid_is last_is =
      rw (last_is, mid_is, big_is, begun, three_digits n large small)

-- a name of two bytes, the first a C, is that of the client whose digit is the second
pub named_client : (name : List ℕ) (gateway : ℕ) → length name ≡ 2 → slice_index_or name 0 0 ≡ 67 → gateway < 10
    → nat_eq (slice_index_or name 1 0) (48 + gateway) ≡ bytes_eq name (client_name gateway)
named_client [] gateway long first small = absurd (omega (arith, long))
named_client (a ∷ []) gateway long first small = absurd (omega (arith, long))
named_client (a ∷ b ∷ []) gateway long first small =
    rw (first, decimal_digit gateway small) (sym (and-true (b == 48 + gateway)))
named_client (a ∷ b ∷ c ∷ more) gateway long first small = absurd (omega (arith, long))
