-- Where its thread rests, nothing moved; and who left is seen off.
use Rattle.std.proofs.Common.{subst}
use Rattle.venue.specs.Turning.{IsAtRest}
use Rattle.venue.proofs.MemberTurns.{rest_is_quiet}
use Rattle.venue.proofs.member.MemberWorker.turn.Goals as goal

pub returns-clause-took : goal.returns-clause-took
returns-clause-took g c = let turn = c.attend-has_moved.ensures in (
  λ rests. turn.turn (rest_is_quiet c.is_holding-held.result c.attend-has_moved.result _ _
      (subst IsAtRest c.outcome.ensures rests)),
  turn.off,
  turn.sent,
)
