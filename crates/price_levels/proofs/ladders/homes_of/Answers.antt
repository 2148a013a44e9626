-- The first symbol's home is everywhere at first.
use Rattle.std.proofs.Common.{sym, subst}
use Rattle.std.specs.List.{AllByRecursion}
use Rattle.price_levels.specs.Ladders.{IsHomeOf}
use Rattle.price_levels.proofs.LadderEnds.{all-alike}
use Rattle.price_levels.proofs.ladders.homes_of.Goals as goal

pub symbols-init : goal.symbols-init
symbols-init c =
    let first = c.home_of-first.result in
    subst (AllByRecursion (IsHomeOf c.args.fences.now)) (sym (c.in_ok-homes.ensures.items_if_clones_equal (λ y e. e)))
    (all-alike (IsHomeOf c.args.fences.now) 264 first c.home_of-first.ensures)
