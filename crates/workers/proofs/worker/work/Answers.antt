-- The turns without the rests.
use Rattle.std.specs.Prelude.{⊤}
use Rattle.workers.proofs.Turns.{ends_of}
use Rattle.workers.proofs.worker.work.Goals as goal

pub returns-clause-ends : goal.returns-clause-ends
returns-clause-ends g c =
    ends_of _ _ (λ t. t.worker) (λ t. ⊤) (λ o x y holds turn. (tt, turn.takes)) _ _ _ _ tt c.work_on.ensures.ends
