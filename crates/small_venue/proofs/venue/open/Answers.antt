-- New seats have no claim.
use Rattle.std.proofs.lemmas.Result.{IfOk-weaker}
use Rattle.small_venue.proofs.Seats.{new_spent}
use Rattle.small_venue.proofs.venue.open.Goals as goal

pub returns-clause-spent : goal.returns-clause-spent
returns-clause-spent g c = IfOk-weaker c.open.result _ _ (λ r are. new_spent r.0 r.1.gateways.items are.gateways)
    c.open.ensures.seats
