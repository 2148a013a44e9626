-- A run is its first field, and the run behind it.
use Rattle.std.proofs.Common.{◌<◌, length, refl, arith}
use Rattle.fix_frame.proofs.FieldsOf.{run_behind, run_before, field_ends, first_and_rest, no_field_no_run, field_long}
use Rattle.std.proofs.lemmas.Bool.Decides.{nat_tests}
use Rattle.fix_frame.proofs.body.Body.next.Goals as goal

pub returns-in_err-field : goal.returns-in_err-field
returns-in_err-field c =
    rw c.from_residual.ensures (record { stays = refl; over = no_field_no_run _ c.in_err-field.ensures })

pub read_field-requires : goal.read_field-requires
read_field-requires c =
    let some : 0 < length c.args.self.now.rest.now = grind (arith, nat_tests, c.if-is_empty.ensures) in
    c.args.self.now.ends some

pub invariant_of-self : goal.invariant_of-self
invariant_of-self c =
    let some : 0 < length c.args.self.now.rest.now = grind (arith, nat_tests, c.if-is_empty.ensures) in
    record { ends = field_ends _ _ _ c.in_ok-field.ensures (c.args.self.now.ends some) }

pub returns : goal.returns
returns c =
    let b = c.in_ok-field.ensures in record {
      right = b.right;
      fields = first_and_rest _ _ _ b;
      run = (run_behind _ _ _ b, run_before _ _ _ b);
      fewer = field_long _ _ _ b;
    }
