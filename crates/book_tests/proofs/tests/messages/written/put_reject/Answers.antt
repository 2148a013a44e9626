-- The Reject's body is nine fields.
use Rattle.std.proofs.Common.{List, [], ◌∷◌, codes, refl, arith}
use Rattle.std.specs.List.{AllByRecursion}
use Rattle.std.specs.Fmt.{digits}
use Rattle.fix_frame.specs.Grammar.{Field, IsField, field_then}
use Rattle.fix_orders.specs.Text.{field}
use Rattle.book_tests.proofs.Bodies.{right}
use Rattle.book_tests.proofs.tests.messages.written.put_reject.Goals as goal

abbrev fields : List Field
fields =
    field 35 (codes "3") ∷
    field 49 (codes "VENUE") ∷
    field 56 (codes "C1") ∷
    field 34 (codes "2") ∷
    field 52 (codes "20250102-09:30:00") ∷
    field 45 (codes "2") ∷
    field 371 (codes "54") ∷
    field 372 (codes "D") ∷
    field 373 (codes "5") ∷ []

each : AllByRecursion IsField fields
each = (
  right 35 51 [] (omega arith) (omega arith) refl,
  (
    right 49 86 (codes "ENUE") (omega arith) (omega arith) refl,
    (
      right 56 67 (codes "1") (omega arith) (omega arith) refl,
      (
        right 34 50 [] (omega arith) (omega arith) refl,
        (
          right 52 50 (codes "0250102-09:30:00") (omega arith) (omega arith) refl,
          (
            right 45 50 [] (omega arith) (omega arith) refl,
            (
              right 371 53 (codes "4") (omega arith) (omega arith) refl,
              (
                right 372 68 [] (omega arith) (omega arith) refl,
                (
                  right 373 53 [] (omega arith) (omega arith) refl,
                  tt,
                ),
              ),
            ),
          ),
        ),
      ),
    ),
  ),
)

pub write_frame-requires-clause-body : goal.write_frame-requires-clause-body
unfolding field_then digits
write_frame-requires-clause-body c = (
  fields,
  record {
    body = record { each = each; typed = refl; least = omega arith; at_most = omega arith };
    spells = refl;
  },
)
