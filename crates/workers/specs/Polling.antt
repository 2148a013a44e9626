-- The polls of a stage as turns of its thread.
use Rattle.std.specs.Prelude.{◌≡◌}
use Rattle.stages.specs.declared.turn.Turn.{Turn}
use Rattle.stages.specs.declared.turn.Turn.TheVariants as turn
use Rattle.workers.specs.declared.worker.Outcome.{Outcome}
use Rattle.workers.specs.declared.worker.Outcome.TheVariants.{Worked, Idle, Pressed, Over}

-- What a poll came to for its thread: where the output ring has no room it is to look again soon, and where the journal
-- failed there is no more to do.
abbrev pub outcome_of : Turn → Outcome
outcome_of (turn.Did count) = Worked
outcome_of turn.Idle = Idle
outcome_of turn.OutFull = Pressed
outcome_of turn.JournalFailed = Over

-- a poll, which came to this for its thread
abbrev pub PollsAs : {S : Type 0} → (Turn → S → S → Type 0) → Outcome → S → S → Type 0
PollsAs polled outcome old new = (turn : Turn) × (outcome_of turn ≡ outcome) × polled turn old new
