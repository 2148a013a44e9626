use Rattle.std.proofs.Common.{rules, ◌≡◌, suc, ◌+◌, ◌*◌, ◌∙◌, ℕ, ap, arith}
use Rattle.ring_words.specs.Places.{unmarshalled}
use Rattle.ring_words.specs.Seats.{person, last_from}
use Rattle.ring_words.specs.Steps.{lesser_of}
use Rattle.ring_words.proofs.Loads.{loads_journalled, lesser_low, known_behind}
use Rattle.ring_words.proofs.Becomes.{words_stay, process_sits}
use Rattle.ring_words.proofs.rings.Rings.load_journalled.Goals as goal

pub load-found-requires : goal.load-found-requires
load-found-requires g c = (search rules, search rules, loads_journalled _ _ _ _ c.seat.inside.alone c.seat.inside.role)

pub invariant_of-seat-inside : goal.invariant_of-seat-inside
invariant_of-seat-inside g c = let seat = c.seat.inside in let told = c.load-found.ensures.2 in
    let r : ℕ = c.load-found.result in let loads = (person seat.seat.me.0).loads in
    let reach = c.lesser-reach.ensures ∙ ap (λ (a : ℕ). lesser_of a r) seat.loaded in
    let far = rw reach at c.if-seat-reach.true in let low = (lesser_low (last_from unmarshalled 0 loads) r).1 in
    let known = (known_behind _ seat.known _ told.2.0 told.2.1 seat.counts.0).0 far in
    let stay = words_stay 24 r loads _ _ (λ (e : 24 ≡ 16). omega arith) (λ j few (e : 24 ≡ 32 + 8 * suc j). omega arith)
    seat.loaded seat.kept in
    process_sits seat.seat.me _ _ told.2.2 seat.bare seat.role (rw told.2.2 (
      reach ∙ known,
      seat.counts.1,
      omega arith,
      omega arith,
    )) _ stay.0 _ seat.put _ stay.1 seat.home seat.below

pub invariant_of-seat-inside-else-seat-reach : goal.invariant_of-seat-inside-else-seat-reach
invariant_of-seat-inside-else-seat-reach g c = let seat = c.seat.inside in let told = c.load-found.ensures.2 in
    let r : ℕ = c.load-found.result in let loads = (person seat.seat.me.0).loads in
    let reach = c.lesser-reach.ensures ∙ ap (λ (a : ℕ). lesser_of a r) seat.loaded in
    let near = rw reach at c.if-seat-reach.false in
    let known = (known_behind _ seat.known _ told.2.0 told.2.1 seat.counts.0).1 near in
    let stay = words_stay 24 r loads _ _ (λ (e : 24 ≡ 16). omega arith) (λ j few (e : 24 ≡ 32 + 8 * suc j). omega arith)
    seat.loaded seat.kept in
    process_sits seat.seat.me _ _ told.2.2 seat.bare seat.role (rw told.2.2 (
      known,
      seat.counts.1,
      seat.counts.2,
      seat.counts.3,
    )) _ stay.0 _ seat.put _ stay.1 seat.home seat.below
