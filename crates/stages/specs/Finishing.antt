-- How a venue ends: one log tells of all that its gateways saw and its stages did, and the disk keeps what was answered.
use Rattle.std.specs.Prelude.{◌≡◌, ℕ, List, [], ◌∷◌}
use mathlib.Core.Option.{some}
use lib.ListN.{get_elem?}
use Rattle.venue_model.specs.History.{History}
use Rattle.venue_model.specs.Requests.{Limits}
use Rattle.book.specs.Histories.{outputs_of}
use Rattle.disks.specs.Disk.{Told}
use Rattle.journal.specs.Format.{IsJournal}
use Rattle.ring_words.specs.At.{Opened, At}
use Rattle.ring_words.specs.Ending.{IsBeginning, Ended, stages_of}
use Rattle.ring_words.specs.declared.close.Summary.{Summary}
use Rattle.ring_words.specs.declared.seats.Seats.{Seats}
use Rattle.ring_words.specs.declared.view.Person.{Person}
use Rattle.stages.specs.Processed.{entries_done}
use Rattle.stages.specs.Stations.{OneCrew}

-- a journal of a beginning of this log, with all of these entries
pub record Survives (log entries : History) (file : List ℕ) : Type 0 where
  pub history : History
  pub journal : IsJournal file history
  pub begins : IsBeginning history log
  pub holds : IsBeginning entries history

-- the persons of the four stages
abbrev pub people_of : {D : Type 0} → OneCrew D → List Person
people_of crew = crew.processor.seat.who ∷ crew.unmarshaller.who ∷ crew.journaller.seat.who ∷ crew.marshaller.who ∷ []

-- The seats have come back, of these gateways and of the stages, and one log tells of all of them. Whatever a crash leaves of an honest disk from now
-- on is the journal of a beginning of that log which has all that the journaller handed on; and no gateway has seen more than that. So it has each
-- message that was answered.
pub record Finished {D : Type 0} (rings : Opened Limits) (gateways : List (At Limits)) (crew : OneCrew D) (honest : Type 0) (disk : Told)
    (s : Summary) : Type 0 where
  pub seats : Seats Limits
  pub gateways_are : seats.gateways.items ≡ gateways
  pub stages : stages_of seats ≡ people_of crew
  pub ended : Ended (outputs_of rings.logic) rings.base seats s
  pub commands : s.commands ≡ crew.processor.seat.who.sequence
  pub outputs : s.outputs ≡ crew.processor.seat.who.row.sequence
  pub survives : honest → (file : List ℕ) → disk.may_leave file → Survives ended.log (entries_done crew.journaller.seat.who) file
  pub holds : (i : ℕ) (seat : At Limits) → get_elem? gateways i ≡ some seat → IsBeginning seat.who.seen (entries_done crew.journaller.seat.who)
