use Rattle.std.proofs.Common.{rules, ◌≡◌, ◌-◌, ◌*◌, ◌+◌, ◌≤◌, ◌∙◌, ℕ, sym, arith}
use Rattle.ring_words.specs.Terms.{terms_of}
use Rattle.ring_words.specs.Seats.{person}
use Rattle.ring_words.specs.SeatLaws.{kept_now, last_kept, up_to_now}
use Rattle.ring_words.proofs.Becomes.{process_sits}
use Rattle.ring_words.proofs.Putting.{loads_taken_in}
use Rattle.ring_words.proofs.rings.Rings.load_taken.Goals as goal

pub load-found-requires : goal.load-found-requires
load-found-requires g c = let key = c.self.inside.table.shared.key in let rows = c.self.inside.rows in (
  search rules,
  search rules,
  loads_taken_in (terms_of g.L.Logic.reads g.L.Logic.outputs g.L.Logic.text g.L.Logic.nothing g.L.Logic.grows key)
      g.row.M g.row.G rows.1 rows.2 _ _ c.args.gateway _ _
      c.seat.inside.alone c.seat.inside.role c.requires.gateway c.taken_word-place.ensures.place,
)

pub invariant_of-seat-inside : goal.invariant_of-seat-inside
invariant_of-seat-inside g c = let seat = c.seat.inside in
    let is = c.load-found.ensures.2.0 in
    let k : ℕ = c.args.gateway in
    let most : c.load-found.result ≤ seat.published = search rules in
    let long = seat.kept.0 in
    let below = up_to_now seat.published seat.taken (k - 1) c.load-found.result
    (let gateway = c.requires.gateway in let few = c.self.inside.rows in omega arith) most seat.below in
    let place : c.taken_word-place.result ≡ 32 + 8 * k = c.taken_word-place.ensures.place in
    process_sits seat.seat.me _ _ is seat.bare seat.role (search rules) _
    (seat.loaded ∙ sym (last_kept 16 c.taken_word-place.result 0 c.load-found.result (person seat.seat.me.0).loads
    (λ (e : c.taken_word-place.result ≡ 16). omega arith))) _ seat.put _
    (kept_now seat.taken (person seat.seat.me.0).loads (k - 1) c.taken_word-place.result c.load-found.result
    (search rules) (let low = c.requires.gateway.0 in omega arith) seat.kept) seat.home below
