-- What a member's worker comes to: its gateway goes on at its place, with one client behind the other, who come in at its port and leave there.
use Rattle.std.specs.Prelude.{◌≡◌, ◌↔◌, ℕ, Bool, true, false, List, [], ◌++◌, Option, option_to_list}
use Rattle.venue_model.specs.Requests.{Limits}
use Rattle.venue.specs.Accepting.{Accepting, AttendsClients, TakesTurn, without_client}
use Rattle.gateway.specs.Gateways.{AtRings}
use Rattle.gateway.specs.declared.ending.Turned.{Turned}
use Rattle.gateway.specs.declared.ending.Turned.TheVariants.{Quiet}
use Rattle.ring_words.specs.At.{Opened, At, IsAt}
use Rattle.ring_words.specs.declared.view.Role.TheVariants.{Gateway}
use Rattle.venue.specs.Leaving.{LeaveOn}
use Rattle.venue.specs.Visiting.{at_gateway, told_leaver}
use Rattle.venue.specs.declared.visitor.Visitor.{Visitor}
use Rattle.wires.specs.Ports.{Register, with_more}
use Rattle.wires.specs.Wires.{Told}

-- a member: its gateway with the client that is there, what the wire of one tells that leaves, and what its port tells
pub record AtPort : Type 0 where
  pub served : Accepting
  pub leaving : Option Told
  pub register : Register

abbrev pub at_port : {W X : Type 0} → (W → Told) → (X → Register) → AtRings → Visitor W → X → AtPort
at_port wire_tells port_tells gateway visitor port =
    record {
      served = at_gateway wire_tells gateway visitor;
      leaving = told_leaver wire_tells visitor;
      register = port_tells port;
    }

-- the gateway took one turn, and this is whether it found something to do
abbrev pub TookTurn : Accepting → Accepting → Bool → Type 0
TookTurn old new moved = (turned : Turned) × (gone : Option Told) × TakesTurn 1024 old new turned gone × (moved ≡ false ↔ turned ≡ Quiet)

-- a look at the port that showed no client was the last thing there
abbrev pub LookedLast : {X : Type 0} → (X → X → Type 0) → X → Type 0
LookedLast looked new = (before : _) × looked before new

-- at the end the port is given back the wire of the client that leaves, or of the one that is there
abbrev pub GivesBack : Register → Register → Option Told → Option Told → Type 0
GivesBack old new leaving wire =
    new ≡ record old { gone = with_more old.gone (option_to_list leaving ++ option_to_list wire); out = false }

-- At the same rings, with the same number, it took turns and let clients in. These are the wires of the clients that came, as the port handed them out, of
-- those whose sessions ended, as they were then, and of those that the port got back: all whose sessions ended, but for one that still leaves.
pub record TradesOn (rings : Opened Limits) (old : AtPort) (rings_after : Opened Limits) (new : AtPort) : Type 0 where
  pub rings_are : rings_after ≡ rings
  pub role : new.served.gateway.seat.who.role ≡ old.served.gateway.seat.who.role
  pub came : List Told
  pub ended : List Told
  pub gone : List Told
  pub attends : AttendsClients 1024 old.served new.served came ended
  pub number : new.register.number ≡ old.register.number
  pub is_open : new.register.is_open ≡ old.register.is_open
  pub handed_out : new.register.came ≡ with_more old.register.came came
  pub given_back : new.register.gone ≡ with_more old.register.gone gone
  pub leave : LeaveOn (option_to_list old.leaving ++ ended) (gone ++ option_to_list new.leaving)

-- Clients of gateway k were served from then on, and this is its seat now: at these rings, with its number, and without claims. They are those that came in
-- at its port, which was opened, in their order, and the port has all their wires back: nothing more was written to one whose session had ended, or that was still there at the end.
pub record IsBack (rings : Opened Limits) (k : ℕ) (seat : At Limits) (old new : Register) : Type 0 where
  pub end : Accepting
  pub came : List Told
  pub ended : List Told
  pub gone : List Told
  pub attends : AttendsClients 1024 (without_client rings k) end came ended
  pub number : new.number ≡ old.number
  pub is_open : new.is_open ≡ true
  pub handed_out : new.came ≡ with_more old.came came
  pub given_back : new.gone ≡ with_more old.gone gone
  pub leave : LeaveOn (ended ++ option_to_list end.wire) gone
  pub seat_is : seat ≡ end.gateway.seat
  pub at : IsAt rings seat
  pub role : seat.who.role ≡ Gateway k
  pub spent : seat.who.claims ≡ []
  pub free : new.out ≡ false
