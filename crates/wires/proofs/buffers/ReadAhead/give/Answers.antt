-- What is copied is the front of what is held, and the rest is what is held behind it.
use Rattle.std.proofs.Common.{◌≡◌, ◌+◌, ◌≤◌, ◌++◌, length, take, drop, ap, ◌∙◌, arith}
use Rattle.std.specs.List.{slice_range}
use Rattle.wires.proofs.BufferLemmas.{given_first, drop-slice_range}
use Rattle.wires.proofs.buffers.ReadAhead.give.Goals as goal

pub returns-clause-gives : goal.returns-clause-gives
returns-clause-gives c =
    let inside = c.self.inside in
    let count = c.min-count.result in
    let behind = drop count c.args.buf.now in
    let held = slice_range inside.bytes.items inside.from inside.upto in
    let same : slice_range c.deref.result.now inside.from inside.upto ≡ held =
    ap (λ xs. slice_range xs inside.from inside.upto) c.deref.ensures.value in
    let piece : c.copy_from_slice.new.self ≡ take count held =
    c.copy_from_slice.ensures.after ∙ ap (take count) same in
    let within : count ≤ length held = omega (arith, ap length same) in
    let ends : inside.from + count ≤ inside.upto = omega (arith, c.self.invariant) in
    let rest = drop-slice_range count inside.from inside.upto inside.bytes.items ends in
    rw (← c.self.view_is, piece)
    (given_first held behind count within ∙ ap (λ xs. take count (take count held ++ behind) ++ xs) rest)
