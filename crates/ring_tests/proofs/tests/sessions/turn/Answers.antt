-- A turn that ends the session says so, and any leaves the gateway at its rings.
use Rattle.std.proofs.Common.{inl, inr}
use Rattle.ring_words.specs.SeatLaws.{still_at}
use Rattle.ring_tests.proofs.Turns.{lives}
use Rattle.ring_tests.proofs.tests.sessions.turn.Goals as goal

pub returns-in-Ended : goal.returns-in-Ended
returns-in-Ended g c = record {
  table = still_at c.args.rings.now _ _ _ c.requires.at c.turn.ensures.uses.stays.rings;
  over = λ ended. c.in-Ended.ensures.turn.turn.means.1;
  alive = λ same. cc;
}

pub returns-in-Worked : goal.returns-in-Worked
returns-in-Worked g c = record {
  table = still_at c.args.rings.now _ _ _ c.requires.at c.turn.ensures.uses.stays.rings;
  over = λ ended. cc;
  alive = λ same. lives _ _ _ c.turn.result c.turn.ensures.turn.turn.means (inl c.in-Worked.is);
}

pub returns-in-Quiet : goal.returns-in-Quiet
returns-in-Quiet g c = record {
  table = still_at c.args.rings.now _ _ _ c.requires.at c.turn.ensures.uses.stays.rings;
  over = λ ended. cc;
  alive = λ same. lives _ _ _ c.turn.result c.turn.ensures.turn.turn.means (inr c.in-Quiet.is);
}
