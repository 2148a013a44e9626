-- The numbers of the faults (docs/PROFILE.md, "Frames").
use Rattle.std.specs.Prelude.{ℕ}
use Rattle.fix_frame.specs.declared.fault.FrameFault.{FrameFault}
use Rattle.fix_frame.specs.declared.fault.FrameFault.TheVariants.{BadBegin, BadLength, BadChecksum, TooLong, BadField}

-- which number a fault has
abbrev pub fault_number : FrameFault → ℕ
fault_number BadBegin = 1
fault_number BadLength = 2
fault_number BadChecksum = 3
fault_number TooLong = 4
fault_number BadField = 5
