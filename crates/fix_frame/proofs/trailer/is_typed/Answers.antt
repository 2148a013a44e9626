-- The first field is MsgType, and a run of fields follows it.
use Rattle.std.proofs.Common.{arith}
use Rattle.std.proofs.lemmas.Bool.Decides.{nat_tests}
use Rattle.fix_frame.proofs.FieldsOf.{typed_before, typed_behind, field_ends}
use Rattle.fix_frame.proofs.trailer.is_typed.Goals as goal

pub returns-then-first-eq-MSG_TYPE : goal.returns-then-first-eq-MSG_TYPE
returns-then-first-eq-MSG_TYPE c =
    let b = c.in-Some.ensures in (
      (λ r. typed_before _ _ _ b c.if-first-eq-MSG_TYPE.true (c.is_run.ensures.0 r)),
      λ t. c.is_run.ensures.1 (typed_behind _ _ _ b t).1,
    )

pub returns-else-first-eq-MSG_TYPE : goal.returns-else-first-eq-MSG_TYPE
returns-else-first-eq-MSG_TYPE c =
    let b = c.in-Some.ensures in (
      (λ r. absurd (c.if-first-eq-MSG_TYPE.false (grind (arith, nat_tests)))),
      λ t. absurd (c.if-first-eq-MSG_TYPE.false (typed_behind _ _ _ b t).0),
    )

pub is_run-requires : goal.is_run-requires
is_run-requires c = field_ends _ _ _ c.in-Some.ensures c.requires
