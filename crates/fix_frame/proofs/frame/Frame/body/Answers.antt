-- The body of a frame is a run of fields.
use Rattle.fix_frame.proofs.FieldsOf.{run_ends}
use Rattle.fix_frame.proofs.frame.Frame.body.Goals as goal

pub invariant_of-result : goal.invariant_of-result
invariant_of-result c =
    let framed = c.args.self.now.framed in
    record { ends = run_ends _ (record { each = framed.frame.body.each; spells = framed.spells }) }
