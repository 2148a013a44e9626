use Rattle.ring_words.specs.At.{IsAt}
use Rattle.barrier.proofs.TextStores.{Stored}
use Rattle.barrier.proofs.outputs.write_text.Given as goal

abbrev pub invariant-loop-index : goal.invariant-loop-index
invariant-loop-index g l = (IsAt l.rings l.seat) × Stored l.fn.seat l.seat l.place
    (record { msg_type = l.fn.msg_type; sending_time = l.fn.sending_time; body = l.fn.body }) l.index
