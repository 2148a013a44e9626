-- What is found is that of the fields in front, and at the end of a run of all.
use Rattle.std.proofs.Common.{refl, sym, ap, ◌∙◌, arith}
use Rattle.fix_frame.specs.Bodies.{bytes_left}
use Rattle.fix_orders.proofs.FoundLemmas.{reading_room, reading_next, reading_done, reading_broken}
use Rattle.fix_orders.proofs.fields.OrderFields.read.Goals as goal

pub loop-field-init : goal.loop-field-init
loop-field-init c = record {
  front = _;
  found_in = c.new-found.ensures c.args.table;
  whole = refl;
  run = (λ r. r, λ r. r);
  few = omega (arith, c.requires);
}

pub take-requires-clause-room : goal.take-requires-clause-room
take-requires-clause-room c = reading_room _ _ _ _ _ _ c.loop-field.invariant c.in-Some.ensures

pub loop-field-preserved : goal.loop-field-preserved
loop-field-preserved c = reading_next _ _ _ _ _ _ _ c.loop-field.invariant c.in-Some.ensures c.take.ensures

pub returns-then-is_over : goal.returns-then-is_over
returns-then-is_over c =
    let same = c.in_default.ensures.stays in
    let over = sym (ap bytes_left same) ∙ c.if-is_over.ensures.0 refl in
    reading_done _ _ _ _ c.loop-field.invariant over

pub returns-else-is_over : goal.returns-else-is_over
returns-else-is_over c = λ run.
    reading_broken _ _ _ _ _ c.loop-field.invariant c.in_default.ensures
    (λ over. let is = c.if-is_over.ensures.1 over in absurd (cc)) run
