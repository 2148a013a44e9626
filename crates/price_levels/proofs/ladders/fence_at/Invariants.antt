-- No fence so far is behind them.
use Rattle.std.proofs.Common.{◌≡◌, false, take}
use Rattle.std.specs.List.{AllByRecursion}
use Rattle.price_levels.specs.Ladders.{is_before}
use Rattle.price_levels.proofs.ladders.fence_at.Given as goal

abbrev pub invariant-fences : goal.invariant-fences
invariant-fences l = AllByRecursion (λ f. is_before f l.key.symbol l.key.side ≡ false) (take l.at l.fences)
