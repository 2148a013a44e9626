-- What a job does over the disk of its journal: what it prints, and what it leaves there (docs/OPERATING.md, "Commands").
use Rattle.std.specs.Prelude.{⊤, ℕ, List, Option}
use Rattle.std.specs.Io.KnownBytes.{Appends}
use Rattle.disks.specs.Disk.{Told, Both, LeavesOnly, OnlyRead}
use Rattle.replay.specs.declared.job.Task.{Task}
use Rattle.replay.specs.declared.job.Task.TheVariants.{Report, Snapshot, Check, Carry}
use Rattle.replay.specs.declared.answer.Answer.{Answer}
use Rattle.replay.specs.Adding.{AnswersAdding, LeftOrAdded}
use Rattle.replay.specs.Answers.{AnswersCheck, answer_line}
use Rattle.replay.specs.Reports.{Reports}

-- it is done over that one disk: `carry` wants a further one
abbrev pub IsOfOneDisk : Task → Type 0
IsOfOneDisk (Report subject limits) = ⊤
IsOfOneDisk (Snapshot limits) = ⊤
IsOfOneDisk (Check limits) = ⊤
IsOfOneDisk (Carry new) = ⊥

-- The line of an answer that says so stands behind what `out` held, where that is known.
pub record PrintsAnswer (says : Answer → Type 0) (old new : Option (List ℕ)) : Type 0 where
  pub answer : Answer
  pub is_so : says answer
  pub printed : Appends old new (answer_line answer)

-- The job was done, and this was printed: of the disk before and behind it, and of what `out` held before and behind it.
abbrev pub DoesTask : Type 0 → Task → Told → Told → Option (List ℕ) → Option (List ℕ) → Type 0
DoesTask honest (Report subject limits) old new out out_after = Reports honest old.file limits subject out out_after
DoesTask honest (Snapshot limits) old new out out_after = PrintsAnswer (λ a. honest → AnswersAdding old.file limits new a) out out_after
DoesTask honest (Check limits) old new out out_after = PrintsAnswer (AnswersCheck honest old.file limits) out out_after
DoesTask honest (Carry name) old new out out_after = ⊥

-- Whatever came of it, this is left of the disk: it was only read, or a snapshot was to be added.
abbrev pub LeavesDisk : Task → Type 0 → Type 0 → Told → Told → Type 0
LeavesDisk (Report subject limits) was is old new = OnlyRead was is old new
LeavesDisk (Snapshot limits) was is old new = Both was is × (was → LeavesOnly old new (LeftOrAdded old limits))
LeavesDisk (Check limits) was is old new = OnlyRead was is old new
LeavesDisk (Carry name) was is old new = ⊥
