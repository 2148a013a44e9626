-- The tag is the piece's, and the value stands where its own begins.
use Rattle.std.proofs.Common.{◌∙◌, ◌+◌, ◌-◌, length, slice_range, ap}
use Rattle.edge_frames.specs.Fields.{tag_of}
use Rattle.edge_frames.proofs.ListLemmas.{field, value_there}
use Rattle.edge_frames.proofs.list.place_of.Goals as goal

pub returns : goal.returns
returns c =
    let text = c.args.text.now in
    let piece = c.args.piece.now in
    let at = c.args.from + c.value_at-skip.result in
    ap (λ t. field t (slice_range text at (at + (length piece - c.value_at-skip.result)))) c.tag_of.ensures ∙
    ap (field (tag_of piece)) (value_there text piece c.args.from c.value_at-skip.result c.value_at-skip.ensures.within
    c.requires.within c.requires.there ∙ c.value_at-skip.ensures.value)
