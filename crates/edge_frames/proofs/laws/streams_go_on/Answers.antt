-- By the lemma of this law.
use Rattle.edge_frames.proofs.CutLemmas.{goes_on}
use Rattle.edge_frames.proofs.laws.streams_go_on.Goals as goal

pub returns : goal.returns
returns c = goes_on
