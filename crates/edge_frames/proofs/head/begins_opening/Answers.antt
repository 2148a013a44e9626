-- The test compares the bytes with as many of the opening.
use Rattle.std.proofs.Common.{◌∙◌, sym, take, length}
use lib.Pointwise.{bytes_decides}
use Rattle.fix_frame.specs.Stages.{opening}
use Rattle.edge_frames.proofs.head.begins_opening.Goals as goal

pub returns : goal.returns
returns c =
    let d = bytes_decides c.args.bytes.now (take (length c.args.bytes.now) opening) in
    ((λ t. d.0 (sym c.starts_with.ensures.value ∙ t)), (λ e. c.starts_with.ensures.value ∙ d.1 e))
