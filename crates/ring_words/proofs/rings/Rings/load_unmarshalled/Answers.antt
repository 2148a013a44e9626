use Rattle.std.proofs.Common.{rules, ◌≡◌, ◌+◌, ◌*◌, suc, sym, arith}
use Rattle.ring_words.specs.Terms.{terms_of}
use Rattle.ring_words.specs.Seats.{person}
use Rattle.ring_words.specs.SeatLaws.{kept_else, last_loaded}
use Rattle.ring_words.proofs.Loads.{loads_unmarshalled}
use Rattle.ring_words.proofs.Becomes.{process_sits}
use Rattle.ring_words.proofs.rings.Rings.load_unmarshalled.Goals as goal

pub load-found-requires : goal.load-found-requires
load-found-requires g c = let key = c.self.inside.table.shared.key in (
  search rules,
  search rules,
  loads_unmarshalled
      (terms_of g.L.Logic.reads g.L.Logic.outputs g.L.Logic.text g.L.Logic.nothing g.L.Logic.grows key) _ _ _
      c.seat.inside.alone c.seat.inside.role,
)

pub invariant_of-seat-inside : goal.invariant_of-seat-inside
invariant_of-seat-inside g c = let seat = c.seat.inside in let is = c.load-found.ensures.2.0 in
    process_sits seat.seat.me _ _ is seat.bare seat.role (search rules) _
    (sym (last_loaded 16 0 c.load-found.result (person seat.seat.me.0).loads)) _ seat.put _
    (kept_else seat.taken (person seat.seat.me.0).loads 16 c.load-found.result
    (λ k few. (λ (e : 16 ≡ 32 + 8 * suc k). omega arith)) seat.kept) seat.home seat.below
