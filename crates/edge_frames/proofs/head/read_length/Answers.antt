-- Digits that SOH ends are a head; digits without it begin one; anything else is none.
use Rattle.std.proofs.Common.{◌+◌, take, drop, sym}
use Rattle.edge_frames.proofs.PieceLemmas.{none_at, ended_none, splits_off}
use Rattle.edge_frames.proofs.HeadLemmas.{found_head, no_head, no_length}
use Rattle.edge_frames.proofs.head.read_length.Goals as goal

pub returns-in-Some-number : goal.returns-in-Some-number
returns-in-Some-number c =
    found_head c.args.bytes.now c.args.behind.now c.in-Some.at c.in-Some-number.n c.requires (sym c.in-Some.ensures)
    c.in-Some-number.ensures

pub returns-in-None-number : goal.returns-in-None-number
returns-in-None-number c =
    no_head c.args.bytes.now c.args.behind.now (take c.in-Some.at c.args.behind.now)
    (drop (c.in-Some.at + 1) c.args.behind.now) c.requires
    (splits_off c.args.behind.now c.in-Some.at (sym c.in-Some.ensures)) c.in-None-number.ensures

pub returns-in-None-2 : goal.returns-in-None-2
returns-in-None-2 c =
    no_length c.args.bytes.now c.args.behind.now c.requires (sym c.if-begins_length.ensures)
    (ended_none c.args.behind.now (none_at _ c.args.behind.now (sym c.in-None.ensures)))
