-- what went out so far, and what is left; of the session nothing else changes
use Rattle.std.proofs.Common.{◌≡◌, ◌++◌, ℕ, List, length}
use Rattle.wires.specs.Wires.{grown}
use Rattle.gateway.proofs.gateway.flush.Given as goal

abbrev pub invariant-bytes : goal.invariant-bytes
invariant-bytes g l =
    let tells = g.W.Wire.tells in
    (put : List ℕ) × (l.initial.session.outgoing ≡ put ++ l.session.outgoing)
    × (tells l.wire ≡ record (tells l.initial.wire) { took = grown (tells l.initial.wire).took put })
    × (l.session ≡ record l.initial.session { outgoing = l.session.outgoing })

abbrev pub decreases-bytes : goal.decreases-bytes
decreases-bytes g l = length l.session.outgoing
