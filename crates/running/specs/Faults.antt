-- The number of a fault of the command line, and which one a fault of the symbols is (docs/OPERATING.md, "Numbers of
-- refusals").
use Rattle.std.specs.Prelude.{ℕ}
use Rattle.venue_model.specs.declared.symbols.LimitsFault.{LimitsFault}
use Rattle.venue_model.specs.declared.symbols.LimitsFault.TheVariants as limits
use Rattle.running.specs.declared.words.WordsFault.{WordsFault}
use Rattle.running.specs.declared.words.WordsFault.TheVariants.{Usage, Memory}

-- symbols that are none get the usage line
abbrev pub fault_of : LimitsFault → WordsFault
fault_of limits.BadSymbol = Usage
fault_of limits.Memory = Memory

-- the number of each
abbrev pub words_number : WordsFault → ℕ
words_number Usage = 11
words_number Memory = 12
