use Rattle.std.proofs.Common.{◌≡◌, ℕ, ◌-◌, List, [], ◌∷◌, map, string_bytes, length, take, drop, ap, sym, subst, ◌∙◌, arith, Err}
use Rattle.std.proofs.lemmas.Result.{err_from_is_err_and}
use Rattle.std.proofs.lemmas.List.{take_all}
use Rattle.replay.specs.declared.fault.ReplayFault.TheVariants.{Usage}
use Rattle.replay.specs.Words.{AreTaskWords}
use Rattle.replay.proofs.job.Job.read.Goals as goal

-- the words behind the first one
behind-of : {X : Type 0} (f : X → List ℕ) (words : List X) (first : List ℕ) (behind : List (List ℕ)) → map f words ≡ first ∷ behind
    → behind ≡ map f (take (length words - 1) (drop 1 words))
behind-of f [] first behind spelled = absurd cc
behind-of f (w ∷ ws) first behind spelled =
    let count : length (w ∷ ws) - 1 ≡ length ws = omega arith in
    sym (ap (drop 1) spelled) ∙ ap (map f) (sym (ap (λ (n : ℕ). take n ws) count ∙ take_all (length ws) ws (omega arith)))

pub returns-in_err-task-clause-wrong : goal.returns-in_err-task-clause-wrong
returns-in_err-task-clause-wrong c =
    let p = err_from_is_err_and c.from_residual.result c.from_residual.ensures.1 in
    rw (p.1, p.2) (λ usage journal task asked.
    let same : c.in_err-task.field-0.0 ≡ Usage = cc in
    c.in_err-task.ensures.wrong (ap Err same) task
    (subst (λ ws. AreTaskWords ws task) (behind-of string_bytes c.args.words.now journal asked.behind asked.spelled) asked.asked))
