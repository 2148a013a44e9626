-- A field in front changes nothing, and where none stands what is left is no run.
use Rattle.std.proofs.Common.{◌≡◌, ◌<◌, length, ap, subst, sym, arith, rules}
use Rattle.std.proofs.lemmas.List.{nil_from_length}
use Rattle.std.proofs.lemmas.Bool.Decides.{nat_tests}
use Rattle.fix_frame.specs.Runs.{IsRun}
use Rattle.fix_frame.proofs.FieldsOf.{run_behind, run_before, no_field_no_run, nothing_is_run, rest_shorter, field_ends}
use Rattle.fix_frame.proofs.field.is_run.Goals as goal

pub read_field-requires : goal.read_field-requires
read_field-requires c =
    let some : 0 < length c.loop-rest.rest.now = grind (arith, nat_tests, c.loop-rest-test.ensures) in
    c.loop-rest.invariant.ends some

pub returns-in_default : goal.returns-in_default
returns-in_default c =
    let some : 0 < length c.loop-rest.rest.now = grind (arith, nat_tests, c.loop-rest-test.ensures) in (
      λ t. absurd (cc),
      λ r. absurd (let e = ap length (no_field_no_run c.loop-rest.rest.now c.in_default.ensures
          (c.loop-rest.invariant.same.0 r)) in omega (arith, some, e)),
    )

pub loop-rest-smaller : goal.loop-rest-smaller
loop-rest-smaller c = rest_shorter _ _ _ c.in-Some.ensures

pub loop-rest-preserved : goal.loop-rest-preserved
loop-rest-preserved c = let b = c.in-Some.ensures in
    let some : 0 < length c.loop-rest.rest.now = grind (arith, nat_tests, c.loop-rest-test.ensures) in record {
      same = (
        (λ r. run_behind _ _ _ b (c.loop-rest.invariant.same.0 r)),
        (λ r. c.loop-rest.invariant.same.1 (run_before _ _ _ b r)),
      );
      ends = field_ends _ _ _ b (c.loop-rest.invariant.ends some);
    }

pub returns : goal.returns
returns c = let empty : length c.loop-rest.rest.now ≡ 0 = grind (arith, nat_tests, c.loop-rest-test.ensures) in
    let run = c.loop-rest.invariant.same.1 (subst IsRun (sym (nil_from_length c.loop-rest.rest.now empty))
    nothing_is_run) in
    ((λ t. run), (λ r. search rules))
