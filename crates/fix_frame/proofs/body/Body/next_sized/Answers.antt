-- A run is its first field, and the run behind it.
use Rattle.std.proofs.Common.{◌<◌, length, arith}
use Rattle.fix_frame.proofs.FieldsOf.{run_behind, run_before, first_and_rest, field_long}
use Rattle.std.proofs.lemmas.Bool.Decides.{nat_tests}
use Rattle.fix_frame.proofs.body.Body.next_sized.Goals as goal

pub read_sized-requires-clause-ends : goal.read_sized-requires-clause-ends
read_sized-requires-clause-ends c =
    let some : 0 < length c.args.self.now.rest.now = grind (arith, nat_tests, c.if-is_empty.ensures) in
    c.args.self.now.ends some

pub returns-clause-field : goal.returns-clause-field
returns-clause-field c = λ lacks.
    let b = c.in_ok-value.ensures.field lacks in record {
      right = b.right;
      fields = first_and_rest _ _ _ b;
      run = (run_behind _ _ _ b, run_before _ _ _ b);
      fewer = field_long _ _ _ b;
    }
