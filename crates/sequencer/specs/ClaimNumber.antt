-- The numbers of the refusals of a claim (docs/OPERATING.md, "Numbers of refusals").
use Rattle.std.specs.Prelude.{ℕ}
use Rattle.sequencer.specs.declared.claim.ClaimRefusal.{ClaimRefusal}
use Rattle.sequencer.specs.declared.claim.ClaimRefusal.TheVariants.{Full, Contended, Exhausted}

-- which number a refusal has
abbrev pub claim_number : ClaimRefusal → ℕ
claim_number Full = 31
claim_number Contended = 32
claim_number Exhausted = 33
