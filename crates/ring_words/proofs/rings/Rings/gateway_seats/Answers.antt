use Rattle.std.proofs.Common.{rules, ◌≡◌, ◌+◌, ◌∙◌, ap, arith, length, length-append, List}
use Rattle.ring_words.specs.At.{At}
use Rattle.ring_words.proofs.Crews.{new_more}
use Rattle.ring_words.proofs.rings.Rings.gateway_seats.Goals as goal

pub loop-left-preserved : goal.loop-left-preserved
loop-left-preserved g c = let rings = c.args.self.now in
    let was = c.loop-left.invariant in
    let seat = c.gateway_seat-seat.ensures in
    let sum = was.4 in
    let count : length c.loop-left.seats.items + 1 ≡ c.loop-left.number = was.5 in
    let some_left = c.loop-left-test.true in
    let more = c.in_ok-push.ensures.items in
    let longer : length c.push.new.self.items ≡ length c.loop-left.seats.items + 1 =
    ap (λ (l : List (At g.row.L.Denot)). length l) more ∙ length-append _ _ in (
      search rules,
      search rules,
      seat.people,
      omega arith,
      omega arith,
      omega arith,
      rw more (new_more rings c.loop-left.seats.items _ c.loop-left.number was.6 count seat.seat),
    )
