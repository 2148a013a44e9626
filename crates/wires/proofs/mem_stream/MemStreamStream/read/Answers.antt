-- The piece copied is what the stream has given more, and it stands in the buffer's front.
use Rattle.std.proofs.Common.{◌≡◌, ◌≤◌, ◌-◌, length, take, drop, refl, ap, ◌∙◌, arith, length-append}
use Rattle.std.proofs.lemmas.List.{length-take-le}
use Rattle.wires.proofs.MemWireLemmas.{rest_is, given_more}
use Rattle.wires.proofs.mem_stream.MemStreamStream.read.Goals as goal

pub returns-clause-gives : goal.returns-clause-gives
returns-clause-gives c =
    let input = c.self.inside.input.items in
    let given = c.self.inside.given in
    let count = c.min-count.result in
    let all = c.deref.result.now in
    let behind = drop count c.args.buf.now in
    let rest : take (length all - given) (drop given all) ≡ drop given input =
    rest_is all given ∙ ap (drop given) c.deref.ensures.value in
    let within : count ≤ length (drop given input) = omega (arith, ap length rest) in
    let piece : c.copy_from_slice.new.self ≡ take count (drop given input) =
    c.copy_from_slice.ensures.after ∙ ap (take count) rest in
    let long = length-take-le count (drop given input) within in
    let whole = length-append (take count (drop given input)) behind in
    let more = given_more input given count behind within in
    rw (← c.self.view_is, piece) (omega (arith, long, whole), rw more refl)
