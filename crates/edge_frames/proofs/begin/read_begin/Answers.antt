-- Without a head nothing begins.
use Rattle.edge_frames.proofs.BeginLemmas.{no_begin}
use Rattle.edge_frames.proofs.begin.read_begin.Goals as goal

pub returns-in-Nothing : goal.returns-in-Nothing
returns-in-Nothing c = no_begin c.args.longest c.args.bytes.now c.in-Nothing.ensures
