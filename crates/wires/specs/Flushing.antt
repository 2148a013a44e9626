-- What a flush tells: which bytes went out, and why it ended.
use Rattle.std.specs.Prelude.{◌≡◌, ◌≢◌, ℕ, List, [], ◌++◌, Option}
use Rattle.wires.specs.declared.flushed.Flushed.{Flushed}
use Rattle.wires.specs.declared.flushed.Flushed.TheVariants.{All, Full, Failed}
use Rattle.venue_model.specs.Counts.{Rose}
use Rattle.wires.specs.Wires.{Told, grown}

-- the wire took these bytes, and then the flush ended so
abbrev pub FlushTells : Told → Told → List ℕ → List ℕ → Flushed → Type 0
FlushTells old new put rest All = (rest ≡ []) × (new ≡ record old { took = grown old.took put })
FlushTells old new put rest Full =
    (rest ≢ []) × Rose old.full_writes new.full_writes × (new ≡ record old { took = grown old.took put; full_writes = new.full_writes })
FlushTells old new put rest Failed =
    Rose old.failures new.failures × (new ≡ record old { took = grown old.took put; failures = new.failures })

-- the buffer held what the wire took, and what is left
abbrev pub Flushes : List ℕ → List ℕ → Told → Told → Flushed → Type 0
Flushes buffer rest old new answer = (put : List ℕ) × (buffer ≡ put ++ rest) × FlushTells old new put rest answer

-- the first of the bytes that were held went out, behind those that had
abbrev pub SendsFront : Option (List ℕ) → Option (List ℕ) → List ℕ → List ℕ → Type 0
SendsFront old new held holds = (front : List ℕ) × (held ≡ front ++ holds) × (new ≡ grown old front)
