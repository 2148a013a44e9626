-- Which fault of a report a fault of the symbols is, and one of the journal (docs/OPERATING.md, "Numbers of refusals").
use Rattle.std.specs.Prelude.{Bool, true, false, if◌then◌else◌}
use Rattle.venue_model.specs.declared.symbols.LimitsFault.{LimitsFault}
use Rattle.venue_model.specs.declared.symbols.LimitsFault.TheVariants as limits
use Rattle.journal.specs.declared.fault.JournalFault.{JournalFault}
use Rattle.journal.specs.declared.fault.JournalFault.TheVariants as journals
use Rattle.replay.specs.declared.fault.ReplayFault.{ReplayFault}
use Rattle.replay.specs.declared.fault.ReplayFault.TheVariants.{Usage, Journal, Memory}

-- symbols that are none get the usage line
abbrev pub of_limits : LimitsFault → ReplayFault
of_limits limits.BadSymbol = Usage
of_limits limits.Memory = Memory

-- whether it is 44, which says nothing of the journal
abbrev pub is_memory : JournalFault → Bool
is_memory journals.Memory = true
is_memory _ = false

-- want of memory is said as such, and all else as the journal's fault, with its number and place
abbrev pub report_fault_of : JournalFault → ReplayFault
report_fault_of fault = if is_memory fault then Memory else Journal fault
