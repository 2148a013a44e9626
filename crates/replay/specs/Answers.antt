-- What `venue-replay` answers in one line where no report is asked, and why there is no answer.
use Rattle.std.specs.Prelude.{◌≡◌, ℕ, List, ◌++◌, codes, Some, None}
use Rattle.std.specs.Fmt.{decimal}
use Rattle.venue_model.specs.Requests.{Limits}
use Rattle.journal.specs.Journals.{Explains}
use Rattle.replay.specs.declared.fault.ReplayFault.{ReplayFault}
use Rattle.replay.specs.declared.fault.ReplayFault.TheVariants.{Usage, Journal, Memory, FalseSnapshot, NewExists}
use Rattle.replay.specs.declared.answer.Answer.{Answer}
use Rattle.replay.specs.declared.answer.Answer.TheVariants.{SnapshotsTrue, SnapshotAt, Carried}
use Rattle.replay.specs.Lines.{newline}
use Rattle.replay.specs.Truth.{Checks}

-- the line of an answer
abbrev pub answer_line : Answer → List ℕ
answer_line SnapshotsTrue = codes "snapshots true" ++ newline
answer_line (SnapshotAt offset) = codes "snapshot at " ++ decimal offset ++ newline
answer_line (Carried count) = codes "carried " ++ decimal count ++ codes " commands" ++ newline

-- What a check answers: that all snapshots of the journal are true, and nothing else.
abbrev pub AnswersCheck : Type 0 → List ℕ → Limits → Answer → Type 0
AnswersCheck honest file limits SnapshotsTrue = Checks honest file limits None
AnswersCheck honest file limits (SnapshotAt offset) = ⊥
AnswersCheck honest file limits (Carried count) = ⊥

-- Why it doesn't: the journal can't be read, or the first snapshot that isn't true stands at this offset. So many calls of the disk had failed before
-- and after.
abbrev pub ExplainsCheck : Type 0 → List ℕ → Limits → ℕ → ℕ → ReplayFault → Type 0
ExplainsCheck honest file limits old new Usage = ⊥
ExplainsCheck honest file limits old new (Journal fault) = Explains honest file old new fault
ExplainsCheck honest file limits old new Memory = new ≡ old
ExplainsCheck honest file limits old new (FalseSnapshot offset) = (new ≡ old) × Checks honest file limits (Some offset)
ExplainsCheck honest file limits old new NewExists = ⊥
