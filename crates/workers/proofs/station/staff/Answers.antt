-- The turns of a stage as its polls.
use Rattle.std.proofs.Common.{◌≡◌, ◌∙◌, refl}
use Rattle.workers.proofs.Turns.{ends_of}
use Rattle.workers.proofs.station.staff.Goals as goal

pub returns-clause-ends : goal.returns-clause-ends
returns-clause-ends g c =
    ends_of _ _ (λ s. s.stage) (λ s. s.rings.now ≡ c.args.rings.now) (λ o x y at turn. (turn.0 ∙ at, rw at at turn.1))
    _ _ _ _ refl c.work-ended.ensures.ends
