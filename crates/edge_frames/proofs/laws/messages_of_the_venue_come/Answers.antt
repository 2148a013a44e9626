-- By the lemma of this law.
use Rattle.edge_frames.proofs.VenueLemmas.{venue_comes}
use Rattle.edge_frames.proofs.laws.messages_of_the_venue_come.Goals as goal

pub returns : goal.returns
returns c = venue_comes
