use Rattle.std.proofs.Common.{◌≡◌, [], length}
use Rattle.ring_words.proofs.Endings.{Gathering}
use Rattle.ring_words.proofs.rings.Rings.gather.Given as goal

abbrev pub invariant-loop-gateway : goal.invariant-loop-gateway
invariant-loop-gateway g l = (l.all.table_id ≡ l.self.table) × (l.all.me.1 ≡ [])
    × Gathering l.fn.gateways.items l.fn.stages.me.0.people l.gateways.items l.all.me.0

abbrev pub decreases-loop-gateway : goal.decreases-loop-gateway
decreases-loop-gateway g l = length l.gateways.items
