-- Two gateways' seats came together, loaded processed, and were split again.
use Rattle.std.proofs.Common.{rules, ◌∙◌}
use Rattle.ring_words.proofs.Meetings.{GatewaysMet, loads_meeting, both_people, gateways_met, first_sits, second_sits}
use Rattle.ring_words.proofs.Seatings.{parts}
use Rattle.ring_words.proofs.rings.Rings.meet.Given as given
use Rattle.ring_words.proofs.rings.Rings.meet.Goals.{After-split_seat}
use Rattle.ring_words.proofs.rings.Rings.meet.Goals as goal

pub load-found-requires : goal.load-found-requires
load-found-requires g c = let v = c.one.inside in let w = c.other.inside in
    let both = both_people v.seat.me.0 w.seat.me.0 c.bring_together.ensures.first.1 v.alone w.alone in
    (search rules, search rules, loads_meeting _ _ _ _ _ _ v.number w.number both v.role w.role)

pub split_seat-requires : goal.split_seat-requires
split_seat-requires g c = (search rules, search rules, parts _ _ _)

-- what the two become, and what they learn of each other
learned : (g : given.Over) (c : After-split_seat g) → let cut = c.split_seat in
    GatewaysMet c.args.self.now c.args.one.now c.args.other.now c.one.inside.seat.me.0 c.other.inside.seat.me.0
    c.load-found.result cut.new.seat.table_id cut.result.table_id cut.new.seat.me cut.result.me
learned g c = let v = c.one.inside in let w = c.other.inside in let came = c.bring_together.ensures.first in
    let cut = c.split_seat.ensures in let table = c.load-found.ensures.0 ∙ came.0 in
    gateways_met c.args.self.now v.seat.me.0 w.seat.me.0 came.1 cut.2 cut.4 (cut.0 ∙ table) (cut.3 ∙ table) v.alone
    w.alone c.one.view_is c.other.view_is c.requires.one c.requires.other v.role w.role
    c.load-found.ensures.2

pub invariant_of-one-inside : goal.invariant_of-one-inside
invariant_of-one-inside g c = let v = c.one.inside in
    first_sits (learned g (goal.at.invariant_of-one-inside g c).After-split_seat) v.role v.numbered v.counts

pub invariant_of-other-inside : goal.invariant_of-other-inside
invariant_of-other-inside g c = let w = c.other.inside in
    second_sits (learned g (goal.at.invariant_of-other-inside g c).After-split_seat) w.role w.numbered w.counts

pub returns : goal.returns
returns g c = let met = learned g (goal.at.returns g c).After-split_seat in
    record { met = met.learned; steps = (_, met.one_steps, met.other_steps) }
