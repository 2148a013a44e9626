-- Where connections come in: who was accepted, in order, who was let go, and whose wires came back.
use Rattle.std.specs.Prelude.{◌≡◌, ℕ, ◌-◌, Bool, true, false, List, [], ◌∷◌, length, take, Option, Some, None, option_map}
use Rattle.wires.specs.Ports.{with_more}
use Rattle.wires.specs.Wires.{Told, uncounted}

-- What a listener tells: its number, as TCP has it, and whether it is open; the connections that it accepted and hasn't let go, in order, each as it came;
-- those that it let go since no wire could be made; the wires that it took back; each None where it tells none; and whether a wire is out.
pub record Lobby : Type 0 where
  pub number : ℕ
  pub is_open : Bool
  pub came : Option (List Told)
  pub let_go : Option (List Told)
  pub gone : Option (List Told)
  pub out : Bool

-- what is told of some of them, but for the last
abbrev pub but_last : Option (List Told) → Option (List Told)
but_last known = option_map (λ all. take (length all - 1) all) known

-- this is the last of those that are told, where any are
abbrev pub CameLast : Option (List Told) → Told → Type 0
CameLast known last = (others : Option (List Told)) × (known ≡ with_more others (last ∷ []))

-- what the wire of a connection tells before its first call, where the stream tells its bytes so
abbrev pub as_it_came : {S : Type 0} → (S → Option (List ℕ)) → (S → Option (List ℕ)) → S → Told
as_it_came gave took stream = uncounted (gave stream) (took stream)

-- one was accepted, or none was there
abbrev pub Accepts : {S : Type 0} → (S → Option (List ℕ)) → (S → Option (List ℕ)) → Lobby → Lobby → Option S → Type 0
Accepts gave took old new None = new ≡ old
Accepts gave took old new (Some stream) = new ≡ record old { came = with_more old.came (as_it_came gave took stream ∷ []) }

-- the last one, which came like this, has its wire now, or was let go
abbrev pub MakesWire : {W : Type 0} → Lobby → Lobby → Told → Option W → Type 0
MakesWire old new last (Some wire) = new ≡ record old { out = true }
MakesWire old new last None = new ≡ record old { came = but_last old.came; let_go = with_more old.let_go (last ∷ []) }

-- this wire came back, and its connection is closed
abbrev pub SeesBack : {W : Type 0} → (W → Told) → Lobby → Lobby → W → Type 0
SeesBack tells old new wire = new ≡ record old { gone = with_more old.gone (tells wire ∷ []); out = false }
