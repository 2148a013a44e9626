use Rattle.std.proofs.Common.{None, sym, rules}
use Rattle.ring_words.specs.Terms.{terms_of}
use Rattle.ring_words.proofs.Loads.{loads_processed_in}
use Rattle.ring_words.specs.Places.{processed}
use Rattle.ring_words.specs.Seats.{person}
use Rattle.ring_words.specs.SeatLaws.{last_now}
use Rattle.ring_words.proofs.Becomes.{gateway_sits}
use Rattle.ring_words.proofs.rings.Rings.load_processed.Goals as goal

pub load-found-requires : goal.load-found-requires
load-found-requires g c = let key = c.self.inside.table.shared.key in (
  search rules,
  search rules,
  loads_processed_in
      (terms_of g.L.Logic.reads g.L.Logic.outputs g.L.Logic.text g.L.Logic.nothing g.L.Logic.grows key) _
      c.self.inside.rows.0 _ _ _ c.seat.inside.alone,
)

pub invariant_of-seat-inside : goal.invariant_of-seat-inside
invariant_of-seat-inside g c = let seat = c.seat.inside in
    gateway_sits seat.seat.me _ _ c.load-found.ensures.2.0 seat.bare _ seat.role seat.numbered _ seat.counts _
    (sym (last_now processed None c.load-found.result (person seat.seat.me.0).loads))
