use Rattle.fix_orders.proofs.fields.OrderFields.take.Goals as goal

pub returns-in-None : goal.returns-in-None
returns-in-None c = λ fields found. c.take_outside.ensures c.args.table fields c.args.field.value.now c.requires.field
    found

pub returns-in-None-2 : goal.returns-in-None-2
returns-in-None-2 c = λ fields found. c.take_other.ensures c.args.table fields c.args.field.value.now c.requires.field
    found
