-- Which fault of the venue one of its journal is, and the program's status for it (docs/OPERATING.md, "Exit statuses"
-- and "Numbers of refusals").
use Rattle.std.specs.Prelude.{ℕ, Bool, true, false, if◌then◌else◌, Result, Ok, Err}
use Rattle.journal.specs.declared.fault.JournalFault.{JournalFault}
use Rattle.replay.specs.Faults.{is_memory}
use Rattle.replay.specs.declared.taking_up.StartFault.{StartFault}
use Rattle.replay.specs.declared.taking_up.StartFault.TheVariants as start
use Rattle.venue.specs.declared.fault.ServeFault.{ServeFault}
use Rattle.venue.specs.declared.fault.ServeFault.TheVariants as serve

-- want of memory is said as such, and all else as the journal's fault, with its number and place
abbrev pub of_journal : JournalFault → ServeFault
of_journal fault = if is_memory fault then serve.Memory else serve.Journal fault

-- and a false snapshot with its place
abbrev pub of_start : StartFault → ServeFault
of_start (start.Journal fault) = of_journal fault
of_start (start.FalseSnapshot offset) = serve.FalseSnapshot offset

-- whether the venue had served when it met the fault
abbrev pub had_served : ServeFault → Bool
had_served serve.JournalFailed = true
had_served _ = false

-- the program's status for it
abbrev pub status_of : ServeFault → ℕ
status_of fault = if had_served fault then 2 else 1

-- and for a session's end, which is no fault where the session ended by itself
abbrev pub status_of_end : Result (Unit {0}) ServeFault → ℕ
status_of_end (Ok done) = 0
status_of_end (Err fault) = status_of fault
