-- A gateway at its rings: what contracts see of it, and what its fields stand for.
use Rattle.std.specs.Prelude.{◌≡◌, ◌≢◌, ◌⊎◌, ℕ, ◌<◌, Bool, true, false, not, ◌||◌, ◌==◌, length, is_some, []}
use Rattle.venue_model.specs.Requests.{Limits}
use Rattle.ring_words.specs.At.{At, number}
use Rattle.gateway.specs.declared.ending.Turned.{Turned}
use Rattle.gateway.specs.declared.ending.Turned.TheVariants.{Worked, Quiet, Ended}
use Rattle.gateway.specs.declared.gateway.Gateway.TheInside.{Inside}
use Rattle.wires.specs.Wires.{Told}
use Rattle.gateway.specs.Ledgers.{Ledger}
use Rattle.gateway.specs.SessionCalls.{fresh}
use Rattle.gateway.specs.Standing.{Standing}
use Rattle.gateway.specs.Seats.{HasSeen, ledger_of}
use Rattle.gateway.specs.Turns.{Front, World, world, GoesWith}
use Rattle.gateway.specs.TurnParts.{PassesOver}

-- its side towards the client, and its seat
pub record AtRings : Type 0 where
  pub front : Front
  pub seat : At Limits

-- what there is around it, at an input ring of n rows and a wire that tells this
abbrev pub around : ℕ → AtRings → Told → World
around n g wire = world g.front wire (ledger_of n g.seat)

abbrev pub front : Inside → Front
front g = record {
  session = g.session;
  waiting = g.waiting;
  closed = g.closed;
  deaf = g.deaf;
  idle = g.idle;
  passed = g.passed;
  live = g.live;
}

abbrev pub at_rings : Inside → AtRings
at_rings g = record { front = front g; seat = g.seat }

-- The counts of turns of a live session haven't reached their ends. The seat is the one that all sessions were begun with, and its number is that of
-- their client.
pub record KeepsGateway (g : Inside) : Type 0 where
  pub deaf : g.live ≡ true → g.deaf < 100000
  pub idle : g.live ≡ true → g.idle < 1000
  pub seen : HasSeen g.seat
  pub mate : GoesWith g.session g.passed g.seat.who.sequence
  pub number : g.session.gateway ≡ number g.seat

-- a session is begun
abbrev pub begun : ℕ → ℕ → Front
begun gateway passed = record {
  session = fresh gateway;
  waiting = [];
  closed = false;
  deaf = 0;
  idle = 0;
  passed = passed;
  live = true;
}

-- the client hasn't logged on, or is in the middle of a message
abbrev pub AwaitsClient : Standing → Type 0
AwaitsClient s = (s.logged_on ≡ false) ⊎ (s.under_way ≢ [])

-- what it comes to that a gateway without a session looks once: it passed an output over, or there was none
abbrev pub Idles : Front → Front → Ledger → Ledger → Turned → Type 0
Idles old new desk desk_after Worked = PassesOver old new desk desk_after true
Idles old new desk desk_after Quiet = PassesOver old new desk desk_after false
Idles old new desk desk_after (Ended reason) = ⊥

-- it has to go on by itself: a message waits for room, bytes stand to be written, or the client has closed its side
abbrev pub is_pressed : Front → Bool
is_pressed f = f.closed || (is_some f.session.held || not (length f.session.outgoing == 0))
