-- The numbers of the refusals to restore a book (docs/OPERATING.md, "Numbers of refusals").
use Rattle.std.specs.Prelude.{ℕ}
use Rattle.book.specs.declared.snapshot.fault.RestoreFault.{RestoreFault}
use Rattle.book.specs.declared.snapshot.fault.RestoreFault.TheVariants.{BadSnapshot, Memory}

-- which number a refusal has
abbrev pub restore_number : RestoreFault → ℕ
restore_number BadSnapshot = 61
restore_number Memory = 62
