-- A gateway's seat at the rings: what it published and took, and what a try to publish and a look for an output do to what it knows.
use Rattle.std.specs.Prelude.{◌≡◌, ◌≢◌, ◌⊎◌, ℕ, ◌+◌, ◌^◌, ◌≤◌, ◌==◌, if◌then◌else◌, List, [], ◌∷◌, length, map, take, drop, Option, Some, None}
use mathlib.Core.Option.{some}
use lib.ListN.{get_elem?}
use Rattle.fix_orders.specs.Text.{Said, text}
use Rattle.venue_model.specs.History.{History, Message}
use Rattle.venue_model.specs.Requests.{Limits}
use Rattle.venue_model.specs.declared.outputs.Output.{Output}
use Rattle.book.specs.Histories.{outputs_of}
use Rattle.ring_words.specs.At.{At, Steps, number}
use Rattle.ring_words.specs.declared.view.Person.{Person}
use Rattle.ring_words.specs.declared.view.Sent.{Sent}
use Rattle.ring_words.specs.Places as place
use Rattle.ring_words.specs.Seats.{looked, marked}
use Rattle.sequencer.specs.Claims as claims
use Rattle.sequencer.specs.Claims.{Claimed}
use Rattle.barrier.specs.Taking.{TakesNext}
use Rattle.sequencer.specs.declared.claim.ClaimRefusal.TheVariants as refusal
use Rattle.barrier.specs.declared.taken.Take.{Take}
use Rattle.barrier.specs.declared.taken.Take.TheVariants.{Mine, Passed, Nothing}
use Rattle.gateway.specs.declared.seat.TryPublish.{TryPublish}
use Rattle.gateway.specs.declared.seat.TryPublish.TheVariants.{Done, Refused, Exhausted}
use Rattle.gateway.specs.Ledgers.{Ledger, CarriesSaid}

-- WHAT IT KNOWS

-- the limits of a logic that is known
abbrev pub known : Option Limits → Limits
known None = record { symbols = []; cut = 0 }
known (Some limits) = limits

-- the venue's limits
abbrev pub limits_of : At Limits → Limits
limits_of s = known s.logic

-- how many outputs the history has that the rings were opened with
abbrev pub base_outputs : At Limits → ℕ
base_outputs s = length (outputs_of (limits_of s) s.base)

-- It knows the rings' logic; it has counted the outputs of the history at the start, and no more than those of what it has seen, which are few; and
-- it has published at each place that it claimed. So it is with a seat that `Rings::open` made, and with one that was used since: it has taken nothing
-- that it hasn't seen.
pub record HasSeen (s : At Limits) : Type 0 where
  pub logic : s.logic ≡ Some (limits_of s)
  pub from : base_outputs s ≤ s.who.sequence
  pub to : s.who.sequence ≤ length (outputs_of (limits_of s) s.who.seen)
  pub few : s.who.sequence ≤ 2 ^ 62
  pub spent : s.who.claims ≡ []

-- WHAT IT PUBLISHED AND TOOK

-- the bytes of what was published, in order
abbrev pub messages_of : List Sent → List (List ℕ)
messages_of sends = map (λ p. p.entry.bytes) sends

-- what those outputs say that go to gateway k; the first of all has this place
abbrev pub texts_to : ℕ → ℕ → List Output → List Said
texts_to k place [] = []
texts_to k place (o ∷ os) = if o.to == k then text o place ∷ texts_to k (place + 1) os else texts_to k (place + 1) os

-- what gateway k took, of these limits behind this history: what the outputs of the history that it has seen say, by the one-thread meaning of
-- commands, behind those at the start and up to its count, of those that go to it. Their places are those among all outputs
abbrev pub taken_by : ℕ → Limits → History → Person → List Said
taken_by k limits base p =
    texts_to k (length (outputs_of limits base)) (drop (length (outputs_of limits base)) (take p.sequence (outputs_of limits p.seen)))

-- a gateway as its session sees it, at an input ring of n rows
abbrev pub ledger_of : ℕ → At Limits → Ledger
ledger_of n s = record {
  rows = n;
  published = messages_of s.who.mine;
  taken = taken_by (number s) (limits_of s) s.base s.who;
  count = s.who.sequence;
  loads = s.who.loads;
}

-- WHAT CHANGES IT

-- a message through gateway k
abbrev pub from_gateway : ℕ → List ℕ → Message
from_gateway k bytes = record { gateway = k; bytes = bytes }

-- The gateway claimed a sequence in a ring of n rows, and then published there these bytes and no others.
pub record Published (n : ℕ) (s t : At Limits) (bytes : List ℕ) : Type 0 where
  pub sequence : ℕ
  pub claimer : At Limits
  pub claimed : Claimed n s sequence claimer
  pub published : Steps claimer (marked claimer.who sequence (from_gateway (number s) bytes)) t

-- what a try to publish with this answer does to the seat. Where it claimed no sequence it only loaded: the ring was full, or another was faster, or
-- no sequence is left
abbrev pub Enters : ℕ → At Limits → At Limits → List ℕ → TryPublish → Type 0
Enters n s t bytes Done = Published n s t bytes
Enters n s t bytes Refused = claims.Refused n s refusal.Full t ⊎ claims.Refused n s refusal.Contended t
Enters n s t bytes Exhausted = claims.Refused n s refusal.Exhausted t

-- The output is the one at the gateway's count of all outputs of one history, which the gateway has seen now and which is legal for it; and it is
-- counted.
pub record TakesOne (s t : At Limits) (output : Output) : Type 0 where
  pub history : History
  pub takes : TakesNext (length s.base) s.who history t.who
  pub next : get_elem? (outputs_of (limits_of s) history) s.who.sequence ≡ some output
  pub others : Steps s t.who t

-- What a look with this answer hands on: an output to this gateway, which is carried; or one to another, which is passed over; or none, since the
-- marshalled word that was loaded showed none at the gateway's count.
abbrev pub Looks : At Limits → At Limits → List ℕ → Take → Type 0
Looks s t body (Mine head) = (o : Output) × TakesOne s t o × (o.to ≡ number s) × CarriesSaid head body (text o s.who.sequence)
Looks s t body Passed = (o : Output) × TakesOne s t o × (o.to ≢ number s)
Looks s t body Nothing = Steps s (looked s.who place.marshalled s.who.sequence) t

-- the seat is still of the same rings, and the same gateway's
pub record StaysSeated (s t : At Limits) : Type 0 where
  pub rings : Steps s t.who t
  pub role : t.who.role ≡ s.who.role

-- it was used for one try to publish at most
abbrev pub MayEnter : ℕ → At Limits → At Limits → Type 0
MayEnter n s t = (t ≡ s) ⊎ ((message : List ℕ) × (answer : TryPublish) × Enters n s t message answer)

-- and for one look for an output at most
abbrev pub MayLook : At Limits → At Limits → Type 0
MayLook s t = (t ≡ s) ⊎ ((body : List ℕ) × (answer : Take) × Looks s t body answer)

-- A gateway without a session used the seat for one look at most.
pub record LooksOnce (s t : At Limits) : Type 0 where
  pub stays : StaysSeated s t
  pub looks : MayLook s t

-- A turn used the seat: for one try to publish at most, and then for one look at most.
pub record Uses (n : ℕ) (s t : At Limits) : Type 0 where
  pub stays : StaysSeated s t
  pub between : At Limits
  pub enters : MayEnter n s between
  pub looks : MayLook between t
