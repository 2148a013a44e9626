-- The members of the listening venue: their doors and ports, and the seats and ports that come back from them.
use Rattle.std.specs.Prelude.{◌≡◌, ◌≤◌, ◌<◌, ℕ, ◌+◌, true, false, List, [], ◌∷◌, ◌++◌, vec_len, Box}
use Rattle.std.specs.Global.{Global}
use Rattle.std.specs.Vec.{vec_capacity}
use mathlib.Core.Option.{some}
use lib.ListN.{get_elem?}
use Rattle.venue_model.specs.Requests.{Limits}
use Rattle.ring_words.specs.At.{Opened, At, IsAt}
use Rattle.ring_words.specs.declared.view.Role.TheVariants.{Gateway}
use Rattle.venue.specs.Accepting.{without_client}
use Rattle.gateway.specs.Gateways.{AtRings}
use Rattle.venue.specs.Headline.{in_box}
use Rattle.venue.specs.Trading.{IsBack}
use Rattle.venue.specs.declared.members.Home.{Home}
use Rattle.venue.specs.declared.members.Members.{Members}
use Rattle.venue.specs.declared.visitor.Visitor.{Visitor}
use Rattle.venue.specs.declared.visitor.Visitor.TheVariants.{Nobody}
use Rattle.wires.specs.Ports.{Register}

-- the door of gateway k of these rings as they were opened, at which nobody is
abbrev pub IsDoor : {W : Type 0} → Opened Limits → ℕ → AtRings × Box (Visitor W) Global → Type 0
IsDoor rings k door = (door.0 ≡ (without_client rings k).gateway) × (door.1.value ≡ Nobody)

-- such doors, in the order of their gateways' numbers
abbrev pub AreDoors : {W : Type 0} → Opened Limits → List (AtRings × Box (Visitor W) Global) → Type 0
AreDoors rings doors =
    (i : ℕ) (door : AtRings × Box (Visitor _) Global) → get_elem? doors i ≡ some door → IsDoor rings (i + 1) door

-- no client's wire is out at these ports
abbrev pub AreFree : {X : Type 0} → (X → Register) → List X → Type 0
AreFree tells ports = (i : ℕ) (x : _) → get_elem? ports i ≡ some x → (tells x).out ≡ false

-- clients may come in at all of these ports, or at so many of them
abbrev pub AreOpen : {X : Type 0} → (X → Register) → List X → Type 0
AreOpen tells ports = (i : ℕ) (x : _) → get_elem? ports i ≡ some x → (tells x).is_open ≡ true

abbrev pub AreOpenUpTo : {X : Type 0} → ℕ → (X → Register) → List X → Type 0
AreOpenUpTo n tells ports = (i : ℕ) (x : _) → i < n → get_elem? ports i ≡ some x → (tells x).is_open ≡ true

-- seats that came back, in the order of their gateways' numbers, and the ports of their clients, before and after
abbrev pub AreBack : {X : Type 0} → Opened Limits → (X → Register) → List X → List (At Limits) → List X → Type 0
AreBack rings tells old seats new = (i : ℕ) (s : At Limits) (x y : _) → get_elem? seats i ≡ some s → get_elem? old i ≡ some x
    → get_elem? new i ≡ some y → IsBack rings (i + 1) s (tells x) (tells y)

-- Members as they are before anybody is served: at these rings, each with its port, which is open, and with lists in which there is room for all seats and ports.
pub record AreReady {W X : Type 0} (rings : Opened Limits) (tells : X → Register) (m : Members W X) : Type 0 where
  pub doors : AreDoors rings m.doors.items
  pub ports : vec_len m.ports ≡ vec_len m.doors
  pub opened : AreOpen (in_box tells) m.ports.items
  pub free : AreFree (in_box tells) m.ports.items
  pub empty : (m.home.seats.items ≡ []) × (m.home.ports.items ≡ [])
  pub room : (vec_len m.doors ≤ vec_capacity m.home.seats) × (vec_len m.doors ≤ vec_capacity m.home.ports)

-- the last of them has this port, and these are the others
pub record IsLast {W X : Type 0} (all others : Members W X) (port : Box X Global) : Type 0 where
  pub doors : vec_len all.doors ≡ vec_len others.doors + 1
  pub ports : all.ports.items ≡ others.ports.items ++ port ∷ []
  pub home : others.home ≡ all.home

-- All of them have traded, and are home.
pub record AreHome {W X : Type 0} (rings : Opened Limits) (tells : X → Register) (m : Members W X) (h : Home X) : Type 0 where
  pub back : AreBack rings (in_box tells) m.ports.items h.seats.items h.ports.items
  pub seats : vec_len h.seats ≡ vec_len m.doors
  pub ports : vec_len h.ports ≡ vec_len m.doors
  pub room : (vec_capacity h.seats ≡ vec_capacity m.home.seats) × (vec_capacity h.ports ≡ vec_capacity m.home.ports)

-- the seats that came back are of these rings, have their gateways' numbers, and no claims
abbrev pub AreReturned : Opened Limits → List (At Limits) → Type 0
AreReturned rings seats = (i : ℕ) (s : At Limits) → get_elem? seats i ≡ some s → IsAt rings s × (s.who.role ≡ Gateway (i + 1)) × (s.who.claims ≡ [])
