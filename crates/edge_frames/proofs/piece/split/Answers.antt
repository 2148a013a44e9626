-- The first SOH ends the first piece.
use Rattle.std.proofs.lemmas.List.{take_rest}
use Rattle.edge_frames.proofs.PieceLemmas.{none_at, ended_none, splits_off}
use Rattle.std.proofs.Common.{sym, ◌+◌}
use Rattle.edge_frames.proofs.piece.split.Goals as goal

pub returns-in-None : goal.returns-in-None
returns-in-None c = ended_none c.args.bytes.now (none_at _ c.args.bytes.now (sym c.in-None.ensures))

pub returns-in-Some : goal.returns-in-Some
returns-in-Some c =
    rw (take_rest c.args.bytes.now (c.in-Some.at + 1))
    (splits_off c.args.bytes.now c.in-Some.at (sym c.in-Some.ensures))
