-- The sign that stops a venue, and the file that is one.
use Rattle.std.specs.Prelude.{◌≡◌, ◌⊎◌, ℕ, Bool, true, false, List, string_bytes}
use Rattle.venue.specs.declared.stop.Look.{Look}
use Rattle.venue.specs.declared.stop.Look.TheVariants.{There, Missing, Failed}
use Rattle.venue.specs.declared.stop.StopFile.{StopFile}

-- a look says yes where the sign was there, and no where it was missing or the look failed
abbrev pub LooksForStop : {S : Type 0} → (Look → S → S → Type 0) → Bool → S → S → Type 0
LooksForStop looked true old new = looked There old new
LooksForStop looked false old new = looked Missing old new ⊎ looked Failed old new

-- what was left of the sign was taken away first
abbrev pub WasCleared : {S : Type 0} → (S → S → Type 0) → S → Type 0
WasCleared cleared old = (now : _) × cleared old now

-- the file of the sign's name was removed, and no other
abbrev pub removed_file : {N : Type 0} → (List ℕ → N → N → Type 0) → StopFile N → StopFile N → Type 0
removed_file removed old new = removed (string_bytes old.path) old.names new.names × (new.path ≡ old.path)

-- the file of the sign's name was looked for, which showed this, and nothing was removed
abbrev pub looked_at_file : {N : Type 0} → (List ℕ → Look → N → N → Type 0) → Look → StopFile N → StopFile N → Type 0
looked_at_file looked look old new = looked (string_bytes old.path) look old.names new.names × (new.path ≡ old.path)
