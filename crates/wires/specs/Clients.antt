-- What was done with the wire of a client, of which code over any wire knows just what it tells.
use Rattle.std.specs.Prelude.{◌≡◌, ◌⊎◌, ℕ, List, []}
use Rattle.wires.specs.Wires.{Told}

-- a wire that tells this was flushed once, and tells the same
abbrev pub IsFlushed : {W : Type 0} → (W → Told) → (W → W → Type 0) → Told → Type 0
IsFlushed tells flushed told = (before after : _) × (tells before ≡ told) × (tells after ≡ told) × flushed before after

-- it was shut once, and then held nothing any more, or had failed
abbrev pub ShutsLast : {W : Type 0} → (W → List ℕ) → (W → Type 0) → (W → W → Type 0) → W → W → Type 0
ShutsLast holds failed was_shut before after = ((holds before ≡ []) ⊎ failed before) × was_shut before after
