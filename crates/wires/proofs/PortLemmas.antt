-- What holds of all clients that are to come holds of the last of them, and one more has come.
use Rattle.std.proofs.Common.{◌≡◌, ℕ, zero, suc, ◌+◌, List, [], ◌∷◌, ◌++◌, refl, ap, sym, subst, ◌∙◌, arith}
use Rattle.std.specs.Prelude.{replicate}
use Rattle.std.specs.List.{AllByRecursion}
use Rattle.wires.specs.Ports.{unmoved}
use Rattle.wires.specs.Wires.{Told}

of_last : {X : Type 0} (P : X → Type 0) (xs : List X) (x : X) → AllByRecursion P (xs ++ x ∷ []) → P x
of_last P [] x all = all.0
of_last P (y ∷ ys) x all = of_last P ys x all.1

replicate-more : {X : Type 0} (n : ℕ) (x : X) → replicate (suc n) x ≡ replicate n x ++ x ∷ []
replicate-more zero x = refl
replicate-more (suc n) x = ap (λ xs. x ∷ xs) (replicate-more n x)

pub one_more : {X : Type 0} (told : X → Told) (n : ℕ) (coming left : List X) (last : X)
    → AllByRecursion (λ x. told x ≡ unmoved) coming
    → coming ≡ left ++ last ∷ []
    → replicate (n + 1) unmoved ≡ replicate n unmoved ++ told last ∷ []
one_more told n coming left last all is =
    let e : n + 1 ≡ suc n = omega arith in
    ap (λ (k : ℕ). replicate k unmoved) e ∙ replicate-more n unmoved
    ∙ ap (λ t. replicate n unmoved ++ t ∷ [])
    (sym (of_last (λ x. told x ≡ unmoved) left last (subst (AllByRecursion (λ x. told x ≡ unmoved)) is all)))
