use Rattle.std.proofs.Common.{◌≡◌, take}
use Rattle.std.specs.List.{list_all, zip}
use Rattle.fix_orders.specs.Formats.{time_shape, fits}
use Rattle.fix_orders.proofs.time.has_shape.Given as goal

abbrev pub invariant-loop-at : goal.invariant-loop-at
invariant-loop-at l = l.right ≡ list_all fits (take l.at (zip time_shape l.value))
