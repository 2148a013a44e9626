use Rattle.fix_frame.proofs.CutOnce.{cut_once}
use Rattle.fix_frame.proofs.laws.streams_are_cut_once.Goals as goal

pub returns : goal.returns
returns c = cut_once
