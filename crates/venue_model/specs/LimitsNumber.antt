-- The numbers of the refusals of a table of symbols (docs/OPERATING.md, "Numbers of refusals").
use Rattle.std.specs.Prelude.{ℕ}
use Rattle.venue_model.specs.declared.symbols.LimitsFault.{LimitsFault}
use Rattle.venue_model.specs.declared.symbols.LimitsFault.TheVariants.{BadSymbol, Memory}

-- which number a refusal has
abbrev pub limits_number : LimitsFault → ℕ
limits_number BadSymbol = 11
limits_number Memory = 12
