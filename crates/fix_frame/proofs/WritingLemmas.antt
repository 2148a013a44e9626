-- A frame that is put together piece by piece.
use Rattle.std.proofs.Common.{◌≡◌, ℕ, ◌≤◌, List, [], ◌∷◌, ◌++◌, length, take, ap, sym, ◌∙◌, arith}
use Rattle.std.specs.Fmt.{decimal}
use Rattle.std.proofs.lemmas.Fmt.{length-decimal-le}
use Rattle.std.proofs.lemmas.List.{append_assoc, append-nil}
use Rattle.fix_frame.specs.Grammar.{Field, head, trailer, frame_of, most_out}
use Rattle.fix_frame.specs.Stages.{opening}
use Rattle.fix_frame.specs.Writing.{SpellsBody, PutsBytes}
use Rattle.fix_frame.proofs.HeadLemmas.{head-opening}

-- no body that goes out has a length of more than three digits
pub body_small : (fields : List ℕ) → (fs : List Field) × SpellsBody most_out fs fields →
    (length fields ≤ 999) × (length (decimal (length fields)) ≤ 3)
body_small fields (fs, s) =
    let small : length fields ≤ 999 = omega (arith, ap length s.spells, s.body.at_most) in
    (small, length-decimal-le 3 (length fields) (omega arith) (omega arith) (omega arith))

module _ (n : ℕ) (fields o₀ o₁ o₂ o₃ o₄ : List ℕ) (b₁ b₂ b₃ b₄ : ℕ) (opened : PutsBytes o₀ o₁ 0 opening b₁)
    (counted : PutsBytes o₁ o₂ b₁ (decimal n) b₂) (headed : PutsBytes o₂ o₃ b₂ (1 ∷ []) b₃)
    (filled : PutsBytes o₃ o₄ b₃ fields b₄) where
  head_is : take b₃ o₃ ≡ head n
  head_is =
      headed.front ∙ ap (λ k. k ++ 1 ∷ []) (counted.front ∙ ap (λ k. k ++ decimal n) opened.front) ∙
      append_assoc opening (decimal n) (1 ∷ []) ∙ sym (head-opening n []) ∙ append-nil (head n)

  pub front_is : take b₄ o₄ ≡ head n ++ fields
  front_is = filled.front ∙ ap (λ k. k ++ fields) head_is

  pub frame_is : (o₅ : List ℕ) (b₅ : ℕ) → PutsBytes o₄ o₅ b₄ (trailer (take b₄ o₄)) b₅ → n ≡ length fields →
      take b₅ o₅ ≡ frame_of fields
  unfolding frame_of
  frame_is o₅ b₅ closed is =
      closed.front ∙ ap (λ k. k ++ trailer k) (front_is ∙ ap (λ k. head k ++ fields) is)
