-- Heads: one stands at a front, and what begins none is wrong.
use Rattle.std.proofs.Common.{◌≡◌, ℕ, ◌+◌, ◌<◌, ◌^◌, List, [], ◌∷◌, ◌++◌, length, refl, ap, sym, ◌∙◌, arith}
use Rattle.std.specs.Fmt.{decimal}
use Rattle.std.proofs.lemmas.Fmt.{decimal_injective}
use Rattle.std.proofs.lemmas.List.{append_assoc, append-nil, append_cancel_left, length-append, length_push}
use Rattle.fix_frame.specs.Grammar.{head}
use Rattle.fix_frame.specs.Stream.{IsLength, head_fault, IsWrong, in_head}
use Rattle.fix_frame.specs.Stages.{opening}
use Rattle.fix_frame.specs.Cuts.{Lacks}
use Rattle.fix_frame.proofs.CutLemmas.{one_cut}
use Rattle.fix_frame.proofs.NumberLemmas.{decimal_lacks}

pub length_fits : (n : ℕ) → IsLength n → n < 2 ^ 64
length_fits n is = omega (arith, is.1)

digits_lack_soh : (n : ℕ) → IsLength n → Lacks 1 (decimal n)
digits_lack_soh n is = decimal_lacks 1 n (length_fits n is) (λ h. omega (arith, h))

-- a head is its opening, the length and SOH
pub head-opening : (n : ℕ) (rest : List ℕ) → head n ++ rest ≡ opening ++ (decimal n ++ 1 ∷ rest)
unfolding head
head-opening n rest = ap (λ k. opening ++ k) (append_assoc (decimal n) (1 ∷ []) rest)

pub length-head : (n : ℕ) → length (head n) ≡ 13 + length (decimal n)
length-head n =
    ap length (sym (append-nil (head n)) ∙ head-opening n []) ∙
    omega (arith, length-append opening (decimal n ++ 1 ∷ []), length_push (decimal n) 1)

-- one head stands at a front
pub one_head : (n m : ℕ) (rest more : List ℕ) → IsLength n → IsLength m → head n ++ rest ≡ head m ++ more →
    (n ≡ m) × (rest ≡ more)
one_head n m rest more is is' e =
    let digits = append_cancel_left opening (decimal n ++ 1 ∷ rest) (decimal m ++ 1 ∷ more)
    (sym (head-opening n rest) ∙ e ∙ head-opening m more) in
    let r = one_cut 1 (decimal n) (decimal m) rest more (digits_lack_soh n is) (digits_lack_soh m is') digits in
    (decimal_injective n m (length_fits n is) (length_fits m is') r.0, r.1)

-- the bytes begin no head, and begin with none
abbrev pub NoHead : List ℕ → Type 0
NoHead bytes = (n : ℕ) (more rest : List ℕ) → IsLength n → bytes ++ more ≡ head n ++ rest → ⊥

pub no_head_wrong : (bytes : List ℕ) → NoHead bytes → IsWrong bytes (head_fault bytes)
no_head_wrong bytes none =
    in_head (λ (n, more, is, e). none n more [] is (e ∙
    sym (append-nil (head n)))) (λ (n, more, is, e). none n [] more is (append-nil bytes ∙ e)) refl
