-- A session that a turn didn't end goes on.
use Rattle.std.proofs.Common.{◌≡◌, ◌⊎◌, inl, inr, true}
use Rattle.gateway.specs.declared.ending.Turned.{Turned}
use Rattle.gateway.specs.declared.ending.Turned.TheVariants.{Worked, Quiet, Ended}
use Rattle.gateway.specs.Turns.{World, Moved, Means}

pub lives : (old new : World) (m : Moved) (answer : Turned) → Means old new m answer
    → (answer ≡ Worked) ⊎ (answer ≡ Quiet) → new.front.live ≡ true
lives old new m Worked means is = means.1.live
lives old new m Quiet means is = means.1.live
lives old new m (Ended reason) means (inl is) = cc
lives old new m (Ended reason) means (inr is) = cc
