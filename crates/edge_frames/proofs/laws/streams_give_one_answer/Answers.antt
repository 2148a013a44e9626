-- By the lemma of this law.
use Rattle.edge_frames.proofs.CutOnce.{cut_once}
use Rattle.edge_frames.proofs.laws.streams_give_one_answer.Goals as goal

pub returns : goal.returns
returns c = cut_once
