-- Why the stages of a venue took no more polls.
use Rattle.std.specs.Prelude.{◌≡◌, ◌≢◌, true}
use Rattle.venue_model.specs.Requests.{Limits}
use Rattle.ring_words.specs.At.{At, Opened, IsAt}
use Rattle.stages.specs.declared.turn.Turn.{Turn}
use Rattle.stages.specs.Devices.{Device}
use Rattle.stages.specs.Journalling.{JournalsOn, PollsWith}
use Rattle.stages.specs.Marshals.{Marshals}
use Rattle.stages.specs.Processes.{Sizes, working, Processes}
use Rattle.stages.specs.Stations.{AtJournal, AtBook, OneCrew}
use Rattle.stages.specs.Turns.{Unmarshals}
use Rattle.workers.specs.declared.worker.Ended.{Ended}
use Rattle.workers.specs.declared.worker.Ended.TheVariants.{Over}
use Rattle.workers.specs.Polling.{PollsAs}
use Rattle.workers.specs.Working.{Ends}

-- one poll of the unmarshaller, of the processor and of the marshaller at their seats
abbrev pub unmarshals : Sizes → Limits → Turn → At Limits → At Limits → Type 0
unmarshals s limits turn x y = Unmarshals s.rows limits turn x.who y.who

abbrev pub processes : Sizes → Limits → Turn → AtBook → AtBook → Type 0
processes s limits turn x y = Processes s limits turn (working x.seat.who x.applied) (working y.seat.who y.applied)

abbrev pub marshals : Sizes → Limits → Turn → At Limits → At Limits → Type 0
marshals s limits turn x y = Marshals s.rows s.output_rows limits turn x.who y.who

-- a stage that takes such polls took no more, for this reason
abbrev pub StageEnds : {S : Type 0} → (Turn → S → S → Type 0) → Type 0 → Ended → S → S → Type 0
StageEnds polled told why old new = Ends (PollsAs polled) told why old new

-- each at its seat at these rings, as it came back with why it took no more polls
abbrev pub UnmarshallerWorks : Sizes → Opened Limits → Type 0 → At Limits → At Limits × Ended → Type 0
UnmarshallerWorks s rings told old result =
    IsAt rings result.0 × StageEnds (unmarshals s rings.logic) told result.1 old result.0

abbrev pub JournallerWorks : {D : Type 0} → Sizes → Opened Limits → Device D → Type 0 → AtJournal D → AtJournal D × Ended
    → Type 0
JournallerWorks s rings device told old result =
    JournalsOn s.rows rings device old result.0 × StageEnds (PollsWith s.rows device) told result.1 old result.0

abbrev pub ProcessorWorks : Sizes → Opened Limits → Type 0 → AtBook → AtBook × Ended → Type 0
ProcessorWorks s rings told old result =
    IsAt rings result.0.seat × StageEnds (processes s rings.logic) told result.1 old result.0

abbrev pub MarshallerWorks : Sizes → Opened Limits → Type 0 → At Limits → At Limits × Ended → Type 0
MarshallerWorks s rings told old result =
    IsAt rings result.0 × StageEnds (marshals s rings.logic) told result.1 old result.0

-- Each stage took polls, and no more since it was told to end or had taken 2^64 - 1; the journaller also since its
-- journal had failed.
pub record StagesEnd {D : Type 0} (s : Sizes) (limits : Limits) (device : Device D) (told : Type 0) (old new : OneCrew D)
    : Type 0 where
  pub unmarshaller : (why : Ended) × (why ≢ Over) × StageEnds (unmarshals s limits) told why old.unmarshaller new.unmarshaller
  pub journaller : (why : Ended) × (why ≡ Over → new.journaller.journal.failed ≡ true)
      × StageEnds (PollsWith s.rows device) told why old.journaller new.journaller
  pub processor : (why : Ended) × (why ≢ Over) × StageEnds (processes s limits) told why old.processor new.processor
  pub marshaller : (why : Ended) × (why ≢ Over) × StageEnds (marshals s limits) told why old.marshaller new.marshaller
