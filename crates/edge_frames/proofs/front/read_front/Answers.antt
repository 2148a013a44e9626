-- Where nothing begins, nothing comes out.
use Rattle.std.proofs.Common.{length}
use Rattle.edge_frames.proofs.FrontLemmas.{nothing_passed}
use Rattle.edge_frames.proofs.front.read_front.Goals as goal

pub returns-in-Nothing-clause-front : goal.returns-in-Nothing-clause-front
returns-in-Nothing-clause-front c =
    nothing_passed c.args.longest (length c.args.places.now) c.args.bytes.now c.in-Nothing.ensures
