-- A gateway's seat and the journaller's came together, loaded processed, and were split again.
use Rattle.std.proofs.Common.{rules, [], refl, ◌∙◌, arith}
use Rattle.ring_words.proofs.Meetings.{JournalMet, loads_journal, both_people, journal_met, first_sits}
use Rattle.ring_words.proofs.Becomes.{still_sits}
use Rattle.ring_words.proofs.Seatings.{parts}
use Rattle.ring_words.proofs.rings.Rings.meet_journal.Given as given
use Rattle.ring_words.proofs.rings.Rings.meet_journal.Goals.{After-split_seat}
use Rattle.ring_words.proofs.rings.Rings.meet_journal.Goals as goal

pub load-found-requires : goal.load-found-requires
load-found-requires g c = let v = c.gateway.inside in let w = c.journal.inside in
    let both = both_people v.seat.me.0 w.seat.me.0 c.bring_together.ensures.first.1 v.alone w.alone in
    (search rules, search rules, loads_journal _ _ _ _ _ _ v.number both v.role w.role (omega arith))

pub split_seat-requires : goal.split_seat-requires
split_seat-requires g c = (search rules, search rules, parts _ _ _)

-- what the two become, and what they learn of each other
learned : (g : given.Over) (c : After-split_seat g) → let cut = c.split_seat in
    JournalMet c.args.self.now c.args.gateway.now c.args.journal.now c.gateway.inside.seat.me.0
    c.journal.inside.seat.me.0 c.load-found.result cut.new.seat.table_id cut.result.table_id
    cut.new.seat.me cut.result.me
learned g c = let v = c.gateway.inside in let w = c.journal.inside in let came = c.bring_together.ensures.first in
    let cut = c.split_seat.ensures in let table = c.load-found.ensures.0 ∙ came.0 in
    journal_met c.args.self.now v.seat.me.0 w.seat.me.0 came.1 cut.2 cut.4 (cut.0 ∙ table) (cut.3 ∙ table) v.alone
    w.alone c.gateway.view_is c.journal.view_is c.requires.gateway c.requires.journal v.role w.role (omega arith)
    c.load-found.ensures.2

pub invariant_of-gateway-inside : goal.invariant_of-gateway-inside
invariant_of-gateway-inside g c = let v = c.gateway.inside in
    first_sits (learned g (goal.at.invariant_of-gateway-inside g c).After-split_seat) v.role v.numbered v.counts

pub invariant_of-journal-inside : goal.invariant_of-journal-inside
invariant_of-journal-inside g c = let w = c.journal.inside in
    let is = (learned g (goal.at.invariant_of-journal-inside g c).After-split_seat).second_has in
    still_sits (c.gateway.inside.seat.me.0, []) _ _ is refl _ w.role (rw (is, ← c.journal.view_is) w.counts, tt)

pub returns : goal.returns
returns g c = let met = learned g (goal.at.returns g c).After-split_seat in
    record { met = met.learned; steps = (_, met.one_steps, met.other_steps) }
