-- One behind the other.
use Rattle.std.proofs.Common.{rules}
use Rattle.venue.proofs.MemberTurns.{attends_alone, attends_and_admits}
use Rattle.venue.proofs.member.Member.attend.Goals as goal

pub returns-then-has_moved : goal.returns-then-has_moved
returns-then-has_moved g c =
    attends_alone _ _ _ c.take_turn-has_moved.ensures c.tend.ensures c.see_off-has_left.ensures _ _ (search rules)
    (λ may. absurd (cc (may, c.if-not-may_come.true)))

pub returns-else-has_moved : goal.returns-else-has_moved
returns-else-has_moved g c =
    attends_alone _ _ _ c.take_turn-has_moved.ensures c.tend.ensures c.see_off-has_left.ensures _ _ (search rules)
    (λ may. absurd (cc (may, c.if-not-may_come.true)))

pub returns-then-has_left : goal.returns-then-has_left
returns-then-has_left g c =
    attends_and_admits _ _ _ c.take_turn-has_moved.ensures c.tend.ensures c.see_off-has_left.ensures _
    c.admit-has_come.result _ (search rules) c.admit-has_come.ensures (λ look may free. (_, look free))

pub returns-else-has_left : goal.returns-else-has_left
returns-else-has_left g c =
    attends_and_admits _ _ _ c.take_turn-has_moved.ensures c.tend.ensures c.see_off-has_left.ensures _
    c.admit-has_come.result _ (search rules) c.admit-has_come.ensures (λ look may free. (_, look free))
