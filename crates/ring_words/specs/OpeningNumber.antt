-- The numbers of the refusals to open rings (docs/OPERATING.md, "Numbers of refusals").
use Rattle.std.specs.Prelude.{ℕ}
use Rattle.ring_words.specs.declared.open.OpenError.{OpenError}
use Rattle.ring_words.specs.declared.open.OpenError.TheVariants.{NotPowerOfTwo, Memory}

-- which number a refusal has
abbrev pub opening_number : OpenError → ℕ
opening_number NotPowerOfTwo = 21
opening_number Memory = 22
