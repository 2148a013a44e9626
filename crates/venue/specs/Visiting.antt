-- Who is there at a member's gateway, and what its turns come to.
use Rattle.std.specs.Prelude.{◌≡◌, ◌⊎◌, Bool, true, false, not, ◌&&◌, Option, Some, None, is_some, IfSome}
use Rattle.venue.specs.Accepting.{Accepting, TakesTurn}
use Rattle.gateway.specs.Gateways.{AtRings, is_pressed}
use Rattle.gateway.specs.declared.ending.Turned.{Turned}
use Rattle.venue.specs.Leaving.{GoesOnLeaving, told_leaving}
use Rattle.venue.specs.declared.leaving.Leaving as leaving
use Rattle.venue.specs.declared.visitor.Visitor.{Visitor}
use Rattle.venue.specs.declared.visitor.Visitor.TheVariants.{Nobody, There, Leaving}
use Rattle.wires.specs.Clients.{IsFlushed}
use Rattle.wires.specs.Wires.{Told}

-- what the wire of a client tells that is there
abbrev pub client_in : {W : Type 0} → (W → Told) → Visitor W → Option Told
client_in tells Nobody = None
client_in tells (There wire) = Some (tells wire)
client_in tells (Leaving client) = None

-- who leaves
abbrev pub leaver : {W : Type 0} → Visitor W → Option (leaving.Leaving W)
leaver Nobody = None
leaver (There wire) = None
leaver (Leaving client) = Some client

-- the client's wire, if there is a client, was flushed once, and tells the same
abbrev pub WasFlushed : {W : Type 0} → (W → Told) → (W → W → Type 0) → Option Told → Type 0
WasFlushed tells flushed wire = IfSome wire (IsFlushed tells flushed)

-- whether somebody is there, or leaves
abbrev pub is_here : {W : Type 0} → Visitor W → Bool
is_here Nobody = false
is_here (There wire) = true
is_here (Leaving client) = true

-- the wire of whoever is there or leaves
abbrev pub wire_of : {W : Type 0} → Visitor W → Option W
wire_of Nobody = None
wire_of (There wire) = Some wire
wire_of (Leaving client) = Some client.wire

-- what the wire of a client tells that leaves
abbrev pub told_leaver : {W : Type 0} → (W → Told) → Visitor W → Option Told
told_leaver tells visitor = told_leaving tells (leaver visitor)

-- a gateway, and what the wire of a client tells that is there
abbrev pub at_gateway : {W : Type 0} → (W → Told) → AtRings → Visitor W → Accepting
at_gateway tells gateway visitor = record { gateway = gateway; wire = client_in tells visitor }

-- a client that was there leaves from now on: it is waited for in 50,000 turns, and was told nothing yet
abbrev pub leaving_now : {W : Type 0} → Visitor W → Visitor W
leaving_now Nobody = Nobody
leaving_now (There wire) = Leaving (record { wire = wire; turns_left = 50000; is_shut = false })
leaving_now (Leaving client) = Leaving client

-- The gateway took a turn. Who left before leaves as before; or the session of the client that was there ended, and
-- that one leaves from now on.
abbrev pub HasTurn : Accepting → Accepting → Option Told → Option Told → Turned → Type 0
HasTurn old new leaving leaving_after turned =
    (TakesTurn 1024 old new turned None × (leaving_after ≡ leaving))
    ⊎ ((told : Told) × TakesTurn 1024 old new turned (Some told) × (leaving ≡ None) × (leaving_after ≡ Some told))

-- the same one is there, or leaves, and the wire tells the same
pub record TellsSame {W : Type 0} (tells : W → Told) (old new : Visitor W) : Type 0 where
  pub client : client_in tells new ≡ client_in tells old
  pub leaver_is : leaver new ≡ leaver old
  pub here : is_here new ≡ is_here old

-- One turn of a client that leaves: it is still waited for, or has left, and then its wire is handed out. Else nothing
-- was done.
abbrev pub SeesOff : {W : Type 0} → (W → Told) → (W → W → Type 0) → (W → W → Type 0) → Visitor W → Visitor W → Option W
    → Type 0
SeesOff tells flushed shuts Nobody new handed = (new ≡ Nobody) × (handed ≡ None)
SeesOff tells flushed shuts (There wire) new handed = (new ≡ There wire) × (handed ≡ None)
SeesOff tells flushed shuts (Leaving client) new None =
    (later : _) × (new ≡ Leaving later) × GoesOnLeaving tells flushed shuts client later false
SeesOff tells flushed shuts (Leaving client) new (Some wire) =
    (last : _) × (new ≡ Nobody) × (wire ≡ last.wire) × GoesOnLeaving tells flushed shuts client last true

-- the gateway has to go on by itself: with a client that leaves, or with the one that is there
abbrev pub is_pressed_at : {W : Type 0} → AtRings → Visitor W → Bool
is_pressed_at gateway Nobody = false
is_pressed_at gateway (There wire) = is_pressed gateway.front
is_pressed_at gateway (Leaving client) = true

-- A client is there with whom the gateway has to go on by itself, and not with a message that waits for room: so its
-- session is on its way to its end.
abbrev pub is_ending_at : {W : Type 0} → AtRings → Visitor W → Bool
is_ending_at gateway Nobody = false
is_ending_at gateway (There wire) = is_pressed gateway.front && not (is_some gateway.front.session.held)
is_ending_at gateway (Leaving client) = false
