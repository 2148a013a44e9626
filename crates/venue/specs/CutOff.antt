-- What can be seen of a venue whose disk fails from a call on, as a machine's that is cut off from it (docs/HEADLINE.md, "While it runs").
use Rattle.std.specs.Prelude.{◌≡◌, ◌⊎◌, ℕ, List}
use mathlib.Core.Option.{some}
use lib.ListN.{get_elem?}
use Rattle.venue_model.specs.Requests.{Limits}
use Rattle.gateway.specs.Visits.{DayPart}
use Rattle.stages.specs.Devices.{Device}
use Rattle.venue.specs.Headline.{Boundary, OneHistory, CameIn, SamePorts}
use Rattle.wires.specs.Ports.{Register}

-- Nobody was served, or members were, by one history, each by the clients that came in at its port. Whatever a crash leaves of the disk as it was at
-- that call has all that they were told.
abbrev pub SeenCutOff : {D X : Type 0} → Limits → Device D → (X → Register) → Boundary D X → Boundary D X → Type 0
SeenCutOff limits device tells old new =
    SamePorts tells old.ports new.ports
    ⊎ ((days : List (List DayPart)) × OneHistory limits (device.honest old.disk) (device.tells old.disk) (device.tells new.disk) days
    × ((i : ℕ) (x y : _) (day : List DayPart) → get_elem? old.ports i ≡ some x → get_elem? new.ports i ≡ some y → get_elem? days i ≡ some day
    → CameIn (tells x) (tells y) day))
