-- The bytes are written out.
use Rattle.fix_frame.specs.Grammar.{trailer}
use Rattle.edge_frames.proofs.begin.trailer_of.Goals as goal

pub returns : goal.returns
unfolding trailer
returns c = rw c.checksum-sum.ensures
