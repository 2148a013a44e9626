use Rattle.std.proofs.Common.{◌∙◌, List, ap, sym, refl}
use Rattle.std.proofs.lemmas.List.{take_all}
use Rattle.fix_orders.specs.Findings.{lesser_if, missing_among}
use Rattle.fix_orders.specs.Reading.{least}
use Rattle.fix_orders.specs.declared.tables.OrderTag.{OrderTag}
use Rattle.fix_orders.specs.declared.tables.TheConstants.{ORDER_TAGS}
use Rattle.fix_orders.proofs.FoundLemmas.{missing_more, missing_is}
use Rattle.fix_orders.proofs.fields.OrderFields.least_missing.Goals as goal

pub loop-tag-preserved : goal.loop-tag-preserved
loop-tag-preserved c =
    c.lesser_missing-found.ensures
    ∙ ap (lesser_if _ _) c.loop-tag.invariant
    ∙ sym (missing_more c.args.table c.args.self.now.values _ c.loop-tag.tag-index _ c.loop-tag-test.true)

pub returns : goal.returns
returns c = λ fields found.
    c.loop-tag.invariant
    ∙ ap (λ (ts : List OrderTag). least (missing_among c.args.table c.args.self.now.values ts))
    (take_all c.loop-tag.tag-index ORDER_TAGS c.loop-tag-test.false)
    ∙ ap least (missing_is c.args.table fields c.args.self.now ORDER_TAGS found refl)
