-- A port over a listener: what it holds, and what it tells.
use Rattle.std.specs.Prelude.{◌≡◌, ◌⊎◌, ⊤, ℕ, Bool, true, false, List, [], ◌∷◌, Option, Some, None}
use Rattle.wires.specs.Listeners.{Lobby, CameLast, but_last, as_it_came}
use Rattle.wires.specs.Ports.{Register, with_more}
use Rattle.wires.specs.Wires.{Told}

-- the listener, and the connection that was accepted and isn't let in yet
pub record Reception (L S : Type 0) : Type 0 where
  pub listener : L
  pub next : Option S

-- the next one is the last that was accepted, and is as it came
abbrev pub IsNext : {S : Type 0} → (S → Option (List ℕ)) → (S → Option (List ℕ)) → Lobby → Option S → Type 0
IsNext gave took lobby None = ⊤
IsNext gave took lobby (Some stream) = CameLast lobby.came (as_it_came gave took stream)

-- those that were accepted and not let go, but for the next one
abbrev pub let_in : {S : Type 0} → Lobby → Option S → Option (List Told)
let_in lobby None = lobby.came
let_in lobby (Some stream) = but_last lobby.came

module _ {L S : Type 0} where
  -- as it is made
  abbrev pub new_reception : L → Reception L S
  new_reception listener = record { listener = listener; next = None }

  abbrev pub listener_of : Reception L S → L
  listener_of r = r.listener

  abbrev pub next_of : Reception L S → Option S
  next_of r = r.next

  -- The clients that came in are those, in order, each with its wire as it came.
  abbrev pub told_reception : (L → Lobby) → Reception L S → Register
  told_reception tells r = record {
    number = (tells r.listener).number;
    is_open = (tells r.listener).is_open;
    came = let_in (tells r.listener) r.next;
    gone = (tells r.listener).gone;
    out = (tells r.listener).out;
  }

  -- none is the next one, and the listener had none by one look; or one was let go, since its wire couldn't be made
  abbrev pub IsLooked : (L → Lobby) → (L → L → Type 0) → Reception L S → Reception L S → Type 0
  IsLooked tells looked old new =
      ((old.next ≡ None) × (new.next ≡ None) × looked old.listener new.listener)
      ⊎ ((one : Told) × ((tells new.listener).let_go ≡ with_more (tells old.listener).let_go (one ∷ [])))

  -- one look for a client: whether one is the next then; one that was stays so; and nobody is let go
  pub record SeesWhoWaits (tells : L → Lobby) (looked : L → L → Type 0) (old new : Reception L S) (found : Bool) : Type 0 where
    pub there : found ≡ true → (one : S) × (new.next ≡ Some one)
    pub none : found ≡ false → (old.next ≡ None) × (new.next ≡ None) × looked old.listener new.listener
    pub keeps : (tells new.listener).let_go ≡ (tells old.listener).let_go
