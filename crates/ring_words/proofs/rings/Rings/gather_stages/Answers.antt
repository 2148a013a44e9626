use Rattle.std.proofs.Common.{rules}
use Rattle.ring_words.proofs.Seatings.{joins, first_stays}
use Rattle.ring_words.proofs.rings.Rings.gather_stages.Goals as goal

pub join_seat-requires : goal.join_seat-requires
join_seat-requires g c =
    (search rules, search rules, c.unmarshal.inside.bare, search rules, joins _ _ _ _ _ _ _ c.process.inside.alone)

pub join_seat-requires-2 : goal.join_seat-requires-2
join_seat-requires-2 g c =
    let one = first_stays c.unmarshal.inside.seat.me.0 c.join_seat.ensures.2 c.process.inside.alone in
    (search rules, search rules, c.journal.inside.bare, search rules, joins _ _ _ _ _ _ _ one)

pub join_seat-requires-3 : goal.join_seat-requires-3
join_seat-requires-3 g c =
    let one = first_stays c.journal.inside.seat.me.0 c.join_seat-2.ensures.2
    (first_stays c.unmarshal.inside.seat.me.0 c.join_seat.ensures.2 c.process.inside.alone) in
    (search rules, search rules, c.marshal.inside.bare, search rules, joins _ _ _ _ _ _ _ one)
