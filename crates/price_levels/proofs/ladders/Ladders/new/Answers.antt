-- All ladders are empty, and one more than the fences.
use Rattle.std.proofs.Common.{◌≡◌, ◌+◌, List, length, refl, subst, arith}
use Rattle.std.specs.List.{AllByRecursion}
use Rattle.price_levels.specs.declared.ladders.Fence.{Fence}
use Rattle.price_levels.specs.Ladders.{IsHomeOf}
use Rattle.price_levels.proofs.LadderEnds.{none-joined, new-ladders}
use Rattle.price_levels.proofs.ladders.Ladders.new.Goals as goal

pub invariant_of-result : goal.invariant_of-result
invariant_of-result c =
    let fences = c.in_ok-fences.fences in
    let made = c.in_ok-ladders.ensures in
    let long = made.0 in
    let count : length c.in_ok-ladders.ladders.items ≡ length fences.items + 1 =
    omega (arith, long, c.len.ensures, fences.ok.0) in
    new-ladders fences.items c.in_ok-homes.homes.items c.in_ok-ladders.ladders.items c.args.room count made.1
    (subst (λ (f : List Fence). AllByRecursion (IsHomeOf f) c.in_ok-homes.homes.items) c.deref.ensures.value
    c.in_ok-homes.ensures)

pub returns : goal.returns
returns c = (none-joined c.args.room c.in_ok-ladders.ladders.items c.in_ok-ladders.ensures.1, refl)
