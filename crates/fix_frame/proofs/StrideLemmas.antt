-- Several bytes at once: what stands before the last of them.
use Rattle.std.proofs.Common.{◌≡◌, ℕ, ◌+◌, ◌-◌, ◌≤◌, ◌<◌, List, [], ◌∷◌, ◌++◌, length, take, get_or, ap, sym, ◌∙◌}
use Rattle.std.proofs.Common.{subst, arith}
use Rattle.std.proofs.lemmas.List.{length-append, length-take, take-append-le, take_more, take-take, take_at}
use Rattle.fix_frame.specs.Cuts.{all_but_last}
use Rattle.fix_frame.specs.Stages.{IsHeading, IsResting, IsUnderWay}
use Rattle.fix_frame.specs.declared.stage.Stage.{Stage}
use Rattle.fix_frame.proofs.CutLemmas.{all_but_last-take}
use Rattle.fix_frame.proofs.RestSteps.{resting_long}

-- before the last of a byte more stand those that are held
all_but_one : (held : List ℕ) (b : ℕ) → all_but_last (held ++ b ∷ []) ≡ held
all_but_one held b = take_at held (b ∷ []) _ (omega (arith, length-append held (b ∷ [])))

pub under_way_one : (stage : Stage) (held more : List ℕ) → 0 < length more → IsUnderWay stage held →
    IsUnderWay stage (all_but_last (held ++ take 1 more))
under_way_one stage held more some h =
    subst (IsUnderWay stage) (sym (ap (λ k. all_but_last (held ++ k)) (take_more more 0 0 some)
    ∙ all_but_one held (get_or more 0 0))) h

-- before the end of a message there are fewer bytes than it has
pub under_way_rest : (held more : List ℕ) (body n k : ℕ) → 0 < k → k ≤ length more → length held + k ≤ body + n + 7
    → IsResting held body n →
    IsResting (all_but_last (held ++ take k more)) body n
under_way_rest held more body n k some within upto h =
    let long = length-append held (take k more) in
    let chunk = length-take k more in
    let body_in = resting_long held body n h in
    record {
      length_is = h.length_is;
      headed =
          take-take body (length (held ++ take k more) - 1) (held ++ take k more) (omega (arith, long, chunk, body_in))
          ∙ take-append-le body held (take k more) body_in ∙ h.headed;
      starts = h.starts;
      short = omega (arith, long, chunk, length-take (length (held ++ take k more) - 1) (held ++ take k more));
    }

-- before the last byte of what is taken stands the head so far
pub under_way_head : (held more : List ℕ) (v at : ℕ) → held ≡ [] → at < length more → IsHeading (take at more) v
    → IsHeading (all_but_last (held ++ take (at + 1) more)) v
under_way_head held more v at none within h =
    subst (λ k. IsHeading (all_but_last (k ++ take (at + 1) more)) v) (sym none)
    (subst (λ k. IsHeading k v) (sym (all_but_last-take more at within)) h)
