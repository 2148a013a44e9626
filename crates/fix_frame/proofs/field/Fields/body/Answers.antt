use Rattle.fix_frame.proofs.FieldsOf.{run_ends}
use Rattle.fix_frame.proofs.field.Fields.body.Goals as goal

pub invariant_of-result : goal.invariant_of-result
invariant_of-result c = record { ends = run_ends _ c.args.self.now.run }
