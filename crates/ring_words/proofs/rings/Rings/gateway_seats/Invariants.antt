use Rattle.std.proofs.Common.{◌≡◌, ◌+◌, ◌≤◌, [], length}
use Rattle.ring_words.specs.Rule.{gateways, view_of}
use Rattle.ring_words.specs.Crew.{AreNewGateways}
use Rattle.ring_words.proofs.rings.Rings.gateway_seats.Given as goal

abbrev pub invariant-loop-left : goal.invariant-loop-left
invariant-loop-left g l = let rings = l.self in (l.first.table_id ≡ rings.table) × (l.first.me.1 ≡ [])
    × (l.first.me.0 ≡ view_of rings.logic rings.base (gateways l.number l.left rings.base rings.base_outputs))
    × (1 ≤ l.number) × (l.number + l.left ≡ g.row.G + 1) × (length l.seats.items + 1 ≡ l.number)
    × AreNewGateways rings l.seats.items

abbrev pub decreases-loop-left : goal.decreases-loop-left
decreases-loop-left g l = l.left
