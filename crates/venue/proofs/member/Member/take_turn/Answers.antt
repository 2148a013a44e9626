-- It took one turn, and the client whose session ended leaves from now on.
use Rattle.std.proofs.Common.{refl, rules}
use Rattle.venue.proofs.MemberTurns.{has_turned, took_turn}
use Rattle.venue.proofs.member.Member.take_turn.Goals as goal

pub returns : goal.returns
returns g c = let turned = c.turn.result in let has = rw c.deref_mut.ensures.value at c.turn.ensures.turn in record {
  goes = has_turned _ _ _ turned _ c.turn.ensures.stays.role _ _ has;
  took = took_turn _ _ turned _ _ _ has (search rules);
  leaver = rw c.deref_mut.ensures.value at c.turn.ensures.leaver;
  turns = refl;
}
