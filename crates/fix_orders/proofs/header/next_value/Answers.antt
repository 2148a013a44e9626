-- Where no field is left of a run, none has the tag.
use Rattle.std.proofs.Common.{ap, sym, subst, ◌∙◌}
use Rattle.fix_frame.specs.Grammar.{fields_of}
use Rattle.fix_frame.proofs.FieldsOf.{fields_of-nil}
use Rattle.fix_orders.specs.Header.{LacksFirst}
use Rattle.fix_orders.proofs.header.next_value.Goals as goal

pub returns-in_err-field : goal.returns-in_err-field
returns-in_err-field c =
    rw c.from_residual.ensures (λ run.
    subst (LacksFirst c.args.tag) (sym (ap fields_of (c.in_err-field.ensures.over run) ∙ fields_of-nil)) tt)
