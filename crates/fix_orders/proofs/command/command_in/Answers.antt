-- Without a header or with another type nothing is asked; else the fields behind the header decide, if they are a run.
use Rattle.std.proofs.Common.{◌∙◌, sym}
use Rattle.fix_orders.proofs.DecodeLemmas.{void_header, void_type, begins, may_ask, asks, is_faulty}
use Rattle.fix_orders.proofs.command.command_in.Goals as goal

pub returns-in_default-clause-run : goal.returns-in_default-clause-run
returns-in_default-clause-run c = λ run. void_header _ _ (c.in_default.ensures.value run)

pub returns-in_default-type_of-clause-run : goal.returns-in_default-type_of-clause-run
returns-in_default-type_of-clause-run c = λ run.
    void_type _ _ _ c.in-Some.ensures.value.header (sym c.type_of.ensures ∙ c.in_default-type_of.is)

pub asked-requires : goal.asked-requires
asked-requires c = may_ask c.in-Some.ensures.value c.type_of.ensures c.in-Some-type_of.is c.in-Some-read_fields.ensures
    c.first_fault.ensures c.in-None.is

pub returns-in-None-clause-run : goal.returns-in-None-clause-run
returns-in-None-clause-run c = λ run. c.asked.ensures
    ∙ asks c.in-Some.ensures.value c.type_of.ensures c.in-Some-type_of.is c.in-Some-read_fields.ensures
    c.first_fault.ensures c.in-None.is c.number_of_time-sending_time.ensures.value

pub returns-in-None-clause-void : goal.returns-in-None-clause-void
returns-in-None-clause-void c = λ none. absurd (begins c.in-Some.ensures.value c.type_of.ensures c.in-Some-type_of.is
    c.in-Some-read_fields.ensures none)

pub returns-in-Some-first_fault-clause-run : goal.returns-in-Some-first_fault-clause-run
returns-in-Some-first_fault-clause-run c = λ run. rw (c.number_of_time-sending_time.ensures.value, c.ref_type.ensures)
    (is_faulty c.in-Some.ensures.value c.type_of.ensures c.in-Some-type_of.is c.in-Some-read_fields.ensures
    c.first_fault.ensures _ c.in-Some-first_fault.is)

pub returns-in-Some-first_fault-clause-void : goal.returns-in-Some-first_fault-clause-void
returns-in-Some-first_fault-clause-void c = λ none. absurd (begins c.in-Some.ensures.value c.type_of.ensures
    c.in-Some-type_of.is c.in-Some-read_fields.ensures none)
