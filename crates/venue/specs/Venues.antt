-- The venue as one thread serves it, and the journals that it leaves.
use Rattle.std.specs.Prelude.{ℕ, List, ◌++◌}
use Rattle.venue_model.specs.History.{History}
use Rattle.venue_model.specs.Requests.{Limits}
use Rattle.ring_words.specs.At.{Opened}
use Rattle.gateway.specs.Gateways.{AtRings}
use Rattle.wires.specs.Wires.{Told}
use Rattle.journal.specs.Format.{IsJournal}
use Rattle.stages.specs.Stations.{OneCrew}

-- the rings, the gateway at its seat, the stages at theirs, and what the gateway's wire tells
pub record Venue (D : Type 0) : Type 0 where
  pub rings : Opened Limits
  pub gateway : AtRings
  pub crew : OneCrew D
  pub wire : Told

abbrev pub venue : {D : Type 0} → Opened Limits → AtRings → OneCrew D → Told → Venue D
venue rings gateway crew wire = record { rings = rings; gateway = gateway; crew = crew; wire = wire }

-- the file is the journal of a history that begins with this one
abbrev pub IsJournalBehind : History → List ℕ → Type 0
IsJournalBehind base file = (more : History) × IsJournal file (base ++ more)
