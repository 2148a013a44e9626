-- what was sent so far, and what still waits
use Rattle.std.proofs.Common.{◌≡◌, ◌++◌, ℕ, List, length}
use Rattle.wires.specs.Wires.{grown}
use Rattle.wires.proofs.buffers.Waiting.send.Given as goal

abbrev pub invariant-bytes : goal.invariant-bytes
invariant-bytes g l =
    let tells = g.W.Wire.tells in
    (sent : List ℕ) × (l.initial.self ≡ sent ++ l.self)
    × (tells l.wire ≡ record (tells l.initial.wire) { took = grown (tells l.initial.wire).took sent })

abbrev pub decreases-bytes : goal.decreases-bytes
decreases-bytes g l = length l.self
