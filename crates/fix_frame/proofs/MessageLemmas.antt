-- Why bytes are no frame: one ends before them, they go wrong, or more would have to come.
use Rattle.std.proofs.Common.{◌≡◌, ℕ, ◌≤◌, List, [], ◌++◌, length, take, refl, sym, ◌∙◌, subst}
use Rattle.std.proofs.lemmas.List.{append-nil, take_all}
use Rattle.fix_frame.specs.Grammar.{Field, IsFrame, frame_text, most_in}
use Rattle.fix_frame.specs.Stream.{IsWrong}
use Rattle.fix_frame.specs.Stages.{IsLive}
use Rattle.fix_frame.specs.declared.fault.FrameFault.{FrameFault}
use Rattle.fix_frame.specs.declared.stage.Stage.{Stage}
use Rattle.fix_frame.specs.declared.stage.Stage.TheVariants.{Head, Rest, Whole, Given, Faulty}
use Rattle.fix_frame.proofs.FrameLemmas.{frame_right}
use Rattle.fix_frame.proofs.LiveLemmas.{not_yet}

module _ (bytes : List ℕ) (fields : List Field) (is : IsFrame most_in bytes fields) where
  text_is : frame_text fields ++ [] ≡ bytes
  text_is = append-nil (frame_text fields) ∙ sym is.spells

  -- nothing in a frame is wrong
  pub wrong_before : (k : ℕ) (fault : FrameFault) → IsWrong (take k bytes) fault → ⊥
  wrong_before k fault wrong =
      frame_right fields [] k fault is.body (subst (λ s. IsWrong (take k s) fault) (sym text_is) wrong)

  -- nor is more to come
  pub not_partial : (stage : Stage) (at : ℕ) → length bytes ≤ at → IsLive stage (take at bytes) →
      ((body : ℕ) → stage ≡ Whole body → ⊥) → ⊥
  not_partial (Whole body) at late h other = other body refl
  not_partial (Head v) at late h other =
      not_yet (Head v) (take at bytes) h fields [] is.body (take_all at bytes late ∙ sym text_is)
  not_partial (Rest body n) at late h other =
      not_yet (Rest body n) (take at bytes) h fields [] is.body (take_all at bytes late ∙ sym text_is)
  not_partial Given at late h other = h
  not_partial (Faulty f) at late h other = h
