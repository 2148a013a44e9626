use Rattle.std.proofs.Common.{◌<◌, ℕ, refl, ap, sym, subst, rules, arith}
use Rattle.venue_model.specs.History.{Message}
use Rattle.ring_words.specs.Log.{IsEntry, times_in}
use Rattle.ring_words.specs.Seats.{marked}
use Rattle.ring_words.specs.At.{At, Steps, number}
use Rattle.sequencer.proofs.WordLemmas.{is_entry, row_spells, marks_message}
use Rattle.sequencer.proofs.claim.Claim.publish.Goals as goal

pub store_availability-requires : goal.store_availability-requires
store_availability-requires g c = let before = c.args.seat.now in
    let written = c.store_words.ensures in let s = c.self.inside.sequence in
    let e : Message = record { gateway = number before; bytes = c.args.bytes.now } in
    let entry : IsEntry e = is_entry (number before) c.args.bytes.now written.number c.requires.bytes
    (λ i. let small = c.type_inv.bytes i in omega arith) in
    let spells = row_spells before c.store_words.new.seat before s e written.step in
    let claimed : 0 < times_in s before.who.claims = subst (λ (n : ℕ). 0 < times_in n before.who.claims)
    (sym c.self.view_is) c.requires.claimed in
    let step = written.step in let same = sym (ap (λ (a : At g.row.L.Denot). number a) step) in
    (omega arith, (search rules, (rw step claimed, (search rules, (rw step refl, (e, spells, entry, same))))))

pub returns-clause-step : goal.returns-clause-step
returns-clause-step g c = let before = c.args.seat.now in
    let e : Message = record { gateway = number before; bytes = c.args.bytes.now } in
    let entry : IsEntry e = is_entry (number before) c.args.bytes.now c.store_words.ensures.number c.requires.bytes
    (λ i. let small = c.type_inv.bytes i in omega arith) in
    subst (λ (n : ℕ). Steps before (marked before.who n e) c.store_availability.new.seat) c.self.view_is
    (marks_message before c.store_words.new.seat _ c.self.inside.sequence e c.store_words.ensures.step entry
    c.store_availability.ensures.step)
