-- Without the opening there is no head.
use Rattle.std.proofs.Common.{◌∙◌, ◌++◌, ap, sym, drop, refl}
use Rattle.std.proofs.lemmas.List.{take_rest, take-append-drop}
use Rattle.edge_frames.proofs.HeadLemmas.{short_none, other_none}
use Rattle.edge_frames.proofs.head.read_head.Goals as goal

pub returns-then-bytes : goal.returns-then-bytes
returns-then-bytes c =
    short_none c.args.bytes.now c.if-bytes.true (λ e. let odd = c.if-begins_opening.ensures.1 e in absurd (cc))

pub returns-then-not-is_opened : goal.returns-then-not-is_opened
returns-then-not-is_opened c =
    other_none c.args.bytes.now c.if-bytes.false (λ e. let odd = c.if-not-is_opened.ensures.1 e in absurd (cc))

pub read_length-requires : goal.read_length-requires
read_length-requires c =
    rw (take_rest c.args.bytes.now 12) (sym (take-append-drop 12 c.args.bytes.now) ∙
    ap (λ k. k ++ drop 12 c.args.bytes.now) (c.if-not-is_opened.ensures.0 refl))
