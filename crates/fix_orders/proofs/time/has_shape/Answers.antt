use Rattle.std.proofs.Common.{◌≡◌, ◌&&◌, ◌∙◌, ap, sym, get_or, length, take, arith}
use Rattle.std.specs.List.{list_all, zip}
use Rattle.std.proofs.lemmas.List.{take_all}
use Rattle.std.proofs.lemmas.List.Folds.{list_all_more}
use Rattle.std.proofs.lemmas.Slice.Zip.{get_or-zip, length-zip}
use Rattle.fix_orders.specs.Formats.{time_shape, fits}
use Rattle.fix_orders.proofs.time.has_shape.Goals as goal

pub loop-at-preserved : goal.loop-at-preserved
loop-at-preserved c =
    let value = c.args.value.now in
    let i = c.loop-at.at in
    let pairs = zip time_shape value in
    let within = c.loop-at-test.true in
    let many : length pairs ≡ 17 = omega (arith, length-zip time_shape value, c.requires) in
    let here : get_or pairs i (0, 0) ≡ (get_or time_shape i 0, get_or value i 0) =
    get_or-zip time_shape value i (0, 0) within (omega (arith, c.requires)) in
    ap (λ right. right && c.fits-right.result) c.loop-at.invariant
    ∙ ap (λ right. list_all fits (take i pairs) && right) (c.fits-right.ensures ∙ ap fits (sym here))
    ∙ sym (list_all_more fits pairs i (0, 0) (omega (arith, many)))

pub returns : goal.returns
returns c =
    let pairs = zip time_shape c.args.value.now in
    let few : length pairs ≡ 17 = omega (arith, length-zip time_shape c.args.value.now, c.requires) in
    c.loop-at.invariant ∙ ap (list_all fits) (take_all c.loop-at.at pairs (omega (arith, few, c.loop-at-test.false)))
