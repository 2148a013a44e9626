-- A run is its first field, and the run behind it.
use Rattle.std.proofs.Common.{◌≡◌, ◌<◌, arith, ap, ◌∙◌, length}
use Rattle.std.proofs.lemmas.Bool.Decides.{nat_tests}
use Rattle.std.proofs.lemmas.List.{nil_from_length}
use Rattle.fix_frame.specs.Grammar.{fields_of}
use Rattle.fix_frame.proofs.FieldsOf.{run_behind, run_ends, first_and_rest, no_field_no_run, fields_of-nil}
use Rattle.fix_frame.proofs.field.FieldsIterator.next.Goals as goal

pub returns-in_err-field-clause-steps : goal.returns-in_err-field-clause-steps
returns-in_err-field-clause-steps c =
    let none = ap fields_of (no_field_no_run c.args.self.now.rest.now c.in_err-field.ensures c.args.self.now.run) ∙
    fields_of-nil in
    rw c.from_residual.ensures (none, none)

pub returns-then-is_empty-clause-steps : goal.returns-then-is_empty-clause-steps
returns-then-is_empty-clause-steps c =
    let empty : length c.args.self.now.rest.now ≡ 0 = grind (arith, nat_tests, c.if-is_empty.ensures) in
    let none = ap fields_of (nil_from_length _ empty) ∙ fields_of-nil in (none, none)

pub read_field-requires : goal.read_field-requires
read_field-requires c =
    let some : 0 < length c.args.self.now.rest.now = grind (arith, nat_tests, c.if-is_empty.ensures) in
    run_ends c.args.self.now.rest.now c.args.self.now.run some

pub invariant_of-self : goal.invariant_of-self
invariant_of-self c = record { run = run_behind _ _ _ c.in_ok-field.ensures c.args.self.now.run }

pub returns-clause-steps : goal.returns-clause-steps
returns-clause-steps c = first_and_rest _ _ _ c.in_ok-field.ensures

pub returns-clause-goes : goal.returns-clause-goes
returns-clause-goes c =
    let fewer = ap length (first_and_rest _ _ _ c.in_ok-field.ensures) in
    record { on = λ _. (tt, tt, omega (arith, fewer)); keeps = tt; rests = λ _. tt }
