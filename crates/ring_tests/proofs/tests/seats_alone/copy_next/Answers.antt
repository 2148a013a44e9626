-- What was found published can be read.
use Rattle.std.proofs.Common.{arith}
use Rattle.ring_words.specs.SeatLaws.{still_at}
use Rattle.stages.proofs.Marshalling.{next_stays, shown_below}
use Rattle.ring_tests.proofs.tests.seats_alone.copy_next.Goals as goal

pub read_output-requires : goal.read_output-requires
read_output-requires g c =
    let v = c.args.seat.now in
    let u = c.outputs_available-upto.new.seat in
    let logic = c.args.rings.now.logic in
    let next = c.sequence-next.result in
    let r = c.outputs_available-upto.result in
    let look = c.outputs_available-upto.ensures.found in
    let own = c.sequence-next.ensures.value in
    let below = c.if-upto-next.false in (
      omega arith,
      (
        still_at c.args.rings.now v u _ c.requires look.1,
        (
          omega (arith, next_stays logic v u next r look.0 look.1 look.2 own),
          shown_below logic v u next r look.0 look.1 look.2 own next (omega (arith, below)),
        ),
      ),
    )
