-- Each exit says why no field, or which, stands at the front.
use Rattle.std.proofs.Common.{◌+◌, ◌++◌, ◌∷◌, ℕ, take, drop, ap, ◌∙◌, subst, arith}
use Rattle.std.proofs.lemmas.List.{take_rest, length-take-le}
use Rattle.std.specs.Fmt.{decimal}
use Rattle.fix_frame.specs.Cuts.{EndsInSoh}
use Rattle.fix_frame.proofs.CutLemmas.{ends_behind}
use Rattle.fix_frame.proofs.FieldLemmas.{no_tag, no_value, a_field}
use Rattle.fix_frame.proofs.field.read_field.Goals as goal

pub find_soh-end-requires : goal.find_soh-end-requires
find_soh-end-requires c =
    ends_behind (decimal c.in_ok-tag.tag) 61 c.in_ok-tag.behind.now (λ e. omega (arith, e))
    (subst EndsInSoh c.in_ok-tag.ensures.1 c.requires)

pub returns-in_err-tag : goal.returns-in_err-tag
returns-in_err-tag c = rw c.from_residual.ensures (no_tag c.args.bytes.now c.in_err-tag.ensures)

pub returns-then-end-eq0 : goal.returns-then-end-eq0
returns-then-end-eq0 c =
    let behind = c.in_ok-tag.behind.now in
    no_value c.args.bytes.now behind c.in_ok-tag.tag c.in_ok-tag.ensures.0 c.in_ok-tag.ensures.1 (drop 1 behind)
    (c.find_soh-end.ensures.ends ∙ ap (λ (k : ℕ). take k behind ++ 1 ∷ drop (k + 1) behind) c.if-end-eq0.true)

pub returns : goal.returns
returns c =
    let behind = c.in_ok-tag.behind.now in
    rw (take_rest behind (c.find_soh-end.result + 1))
    (a_field c.args.bytes.now behind c.in_ok-tag.tag c.in_ok-tag.ensures.0 c.in_ok-tag.ensures.1
    (take c.find_soh-end.result behind) (drop (c.find_soh-end.result + 1) behind)
    c.find_soh-end.ensures.lacks c.find_soh-end.ensures.ends
    (omega (arith, length-take-le c.find_soh-end.result behind, c.find_soh-end.ensures.within)))
