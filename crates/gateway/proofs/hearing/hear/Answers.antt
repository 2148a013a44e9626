use Rattle.std.proofs.Common.{◌∙◌, sym, arith}
use Rattle.fix_orders.specs.Formats.{time_text}
use Rattle.gateway.proofs.HearingLemmas.{verdict_is, time_is}
use Rattle.gateway.proofs.hearing.hear.Goals as goal

pub returns-in_default-clause-verdict : goal.returns-in_default-clause-verdict
returns-in_default-clause-verdict c =
    sym (verdict_is c.args.gateway c.args.accepted _ _ (rw c.fields.ensures.value at c.in_default.ensures.value))

pub returns-in_default-clause-time : goal.returns-in_default-clause-time
returns-in_default-clause-time c =
    sym (time_is (time_text c.args.last) _ _ (rw c.fields.ensures.value at c.in_default.ensures.value))

pub returns-then-is_due_order-clause-verdict : goal.returns-then-is_due_order-clause-verdict
returns-then-is_due_order-clause-verdict c =
    sym (verdict_is c.args.gateway c.args.accepted _ _ (rw c.fields.ensures.value at c.in-Some.ensures.value)
    ∙ c.is_due_order.ensures.held c.if-is_due_order.true)

pub returns-then-is_due_order-clause-time : goal.returns-then-is_due_order-clause-time
returns-then-is_due_order-clause-time c = c.number_of_time-time.ensures.back
    ∙ sym (time_is (time_text c.args.last) _ _ (rw c.fields.ensures.value at c.in-Some.ensures.value))

pub returns-then-is_due_order-clause-counts : goal.returns-then-is_due_order-clause-counts
returns-then-is_due_order-clause-counts c =
    omega (arith, c.is_due_order.ensures.counts c.if-is_due_order.true, c.in-Some.ensures.number)

pub returns-clause-verdict : goal.returns-clause-verdict
returns-clause-verdict c = c.judge.ensures.verdict
    ∙ sym (verdict_is c.args.gateway c.args.accepted _ _ (rw c.fields.ensures.value at c.in-Some.ensures.value))

pub returns-clause-time : goal.returns-clause-time
returns-clause-time c = c.number_of_time-time.ensures.back
    ∙ sym (time_is (time_text c.args.last) _ _ (rw c.fields.ensures.value at c.in-Some.ensures.value))
