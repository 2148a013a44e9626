-- There is a client, and the gateway waits for it.
use Rattle.std.proofs.Common.{ap}
use Rattle.venue.specs.Visiting.{client_in}
use Rattle.venue.proofs.visitor.Visitor.is_awaited.Goals as goal

pub returns-in-There : goal.returns-in-There
returns-in-There g c = let told = ap (client_in g.W.Wire.tells) c.in-There.is in
    λ open_is. let awaits = c.awaits_client.ensures open_is in
    (λ is. ((λ none. cc), awaits.0 is), λ both. awaits.1 both.1)
