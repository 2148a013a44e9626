-- A gateway with its clients, one behind the other, and the wire of the one that is there; and what one turn does.
use Rattle.std.specs.Prelude.{◌≡◌, ◌≢◌, ◌↔◌, ◌⊎◌, ℕ, zero, suc, Bool, true, false, List, [], ◌∷◌, ◌++◌, Option, Some, None, option_to_list}
use Rattle.gateway.specs.Gateways.{AtRings, AwaitsClient, Idles}
use Rattle.gateway.specs.Delivers.{Proceeds}
use Rattle.gateway.specs.Gateways.{begun}
use Rattle.gateway.specs.Seats.{Uses, LooksOnce, ledger_of}
use Rattle.venue_model.specs.Requests.{Limits}
use Rattle.wires.specs.Wires.{Told}
use Rattle.ring_words.specs.At.{Opened, at, number}
use Rattle.ring_words.specs.Rule.{newcomer}
use Rattle.ring_words.specs.declared.view.Role.TheVariants.{Gateway}
use Rattle.gateway.specs.declared.ending.Turned.{Turned}
use Rattle.gateway.specs.declared.ending.Turned.TheVariants.{Worked, Quiet, Ended}

-- the gateway, and what the client's wire tells, if there is a client
pub record Accepting : Type 0 where
  pub gateway : AtRings
  pub wire : Option Told

-- Gateway k of these rings as they were opened, without a client: it knows just the history at the start, has counted its outputs, and has passed none over.
abbrev pub without_client : Opened Limits → ℕ → Accepting
without_client rings k = record {
  gateway = record {
    front = record (begun k 0) { live = false };
    seat = at rings (newcomer (Gateway k) rings.base rings.base_outputs);
  };
  wire = None;
}

-- whether a client is connected that is awaited, for its Logon or the rest of a message; a session that closes hears nothing more
abbrev pub IsAwaited : Accepting → Bool → Type 0
IsAwaited a awaited =
    a.gateway.front.session.closing ≡ None → (awaited ≡ true ↔ ((a.wire ≢ None) × AwaitsClient a.gateway.front.session))

-- no client is connected, and the gateway looked once; there is no wire to hand back
pub record WithoutClient (n : ℕ) (old new : Accepting) (turned : Turned) (gone : Option Told) : Type 0 where
  pub free : old.wire ≡ None
  pub still : new.wire ≡ None
  pub idles : Idles old.gateway.front new.gateway.front (ledger_of n old.gateway.seat) (ledger_of n new.gateway.seat) turned
  pub looks : LooksOnce old.gateway.seat new.gateway.seat
  pub no_wire : gone ≡ None

-- behind a turn with this answer the wire is told whether to rest, and is left; where the session ended it is told to rest, so that it sends what it
-- holds, and is gone: handed back to the caller
abbrev pub Leaves : Turned → Told → Option Told → Option Told → Type 0
Leaves Worked told left gone = (left ≡ Some (record told { quiet = false })) × (gone ≡ None)
Leaves Quiet told left gone = (left ≡ Some (record told { quiet = true })) × (gone ≡ None)
Leaves (Ended reason) told left gone = (left ≡ None) × (gone ≡ Some (record told { quiet = true }))

-- the session of the client that is connected took a turn
pub record WithClient (n : ℕ) (old new : Accepting) (turned : Turned) (gone : Option Told) : Type 0 where
  pub before : Told
  pub behind : Told
  pub connected : old.wire ≡ Some before
  pub proceeds : Proceeds n old.gateway new.gateway before behind turned
  pub uses : Uses n old.gateway.seat new.gateway.seat
  pub leaves : Leaves turned behind new.wire gone

-- one turn, and what the wire that is gone tells, if one is
abbrev pub TakesTurn : ℕ → Accepting → Accepting → Turned → Option Told → Type 0
TakesTurn n old new turned gone = WithoutClient n old new turned gone ⊎ WithClient n old new turned gone

-- a client was let in, whose wire tells this, and its session has begun
abbrev pub Admits : Accepting → Told → Accepting → Type 0
Admits old told new =
    (old.wire ≡ None)
    × (new ≡ record { gateway = record old.gateway { front = begun (number old.gateway.seat) old.gateway.front.passed }; wire = Some told })

-- It took a turn, behind which a client's wire may be gone, or a client was let in: the wires that came and those that are gone.
abbrev pub Goes : ℕ → Accepting → Accepting → List Told → List Told → Type 0
Goes n old new came gone =
    ((turned : Turned) × (left : Option Told) × TakesTurn n old new turned left × (came ≡ []) × (gone ≡ option_to_list left))
    ⊎ ((told : Told) × Admits old told new × (came ≡ told ∷ []) × (gone ≡ []))

-- so often it did one of these, one behind the other; the wires of all clients that came meanwhile, and of those whose sessions ended
abbrev pub AttendsFor : ℕ → ℕ → Accepting → Accepting → List Told → List Told → Type 0
AttendsFor n zero old new came gone = (new ≡ old) × (came ≡ []) × (gone ≡ [])
AttendsFor n (suc k) old new came gone =
    (mid : Accepting) × (came_before came_now gone_before gone_now : List Told) × AttendsFor n k old mid came_before gone_before
    × Goes n mid new came_now gone_now × (came ≡ came_before ++ came_now) × (gone ≡ gone_before ++ gone_now)

-- it went on, with one client behind the other
abbrev pub AttendsClients : ℕ → Accepting → Accepting → List Told → List Told → Type 0
AttendsClients n old new came gone = (k : ℕ) × AttendsFor n k old new came gone
