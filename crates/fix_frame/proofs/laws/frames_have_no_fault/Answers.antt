use Rattle.fix_frame.proofs.FrameLemmas.{frame_right}
use Rattle.fix_frame.proofs.laws.frames_have_no_fault.Goals as goal

pub returns : goal.returns
returns c = λ fields more is at fault f. frame_right fields more at fault is f.here
