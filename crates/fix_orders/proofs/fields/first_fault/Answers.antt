use Rattle.std.proofs.Common.{◌∙◌, List, sym, ap}
use Rattle.std.proofs.lemmas.List.{drop_all}
use Rattle.venue_model.specs.declared.commands.SessionRejectReason.{SessionRejectReason}
use Rattle.fix_orders.specs.Findings.{fault_in}
use Rattle.fix_orders.specs.Reading.{classes}
use Rattle.fix_orders.specs.FaultLaws.{fault_found, fault_later}
use Rattle.fix_orders.proofs.fields.first_fault.Goals as goal

pub returns-in-Some : goal.returns-in-Some
returns-in-Some c = λ fields found.
    sym (fault_found c.loop-reason.reason-index _ c.args.table fields c.in-Some.tag c.loop-reason-test.true
    (sym (c.least.ensures fields found) ∙ c.in-Some.is))
    ∙ c.loop-reason.invariant fields found

pub loop-reason-preserved : goal.loop-reason-preserved
loop-reason-preserved c = λ fields found.
    sym (fault_later c.loop-reason.reason-index _ c.args.table fields c.loop-reason-test.true
    (sym (c.least.ensures fields found) ∙ c.in_default.is))
    ∙ c.loop-reason.invariant fields found

pub returns : goal.returns
returns c = λ fields found.
    sym (ap (λ (rs : List SessionRejectReason). fault_in rs c.args.table fields)
    (drop_all c.loop-reason.reason-index classes c.loop-reason-test.false))
    ∙ c.loop-reason.invariant fields found
