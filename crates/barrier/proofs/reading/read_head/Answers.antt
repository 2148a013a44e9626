use Rattle.std.proofs.Common.{rules}
use Rattle.barrier.proofs.Words.{head_fits}
use Rattle.barrier.proofs.reading.read_head.Goals as goal

pub from_word-requires : goal.from_word-requires
from_word-requires g c = let small = head_fits _ c.args.sequence c.load_raw.result c.requires.to
    c.load_raw.ensures.raw in
    search rules
