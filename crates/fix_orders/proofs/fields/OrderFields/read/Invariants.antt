-- So far what is found is that of the fields in front.
use Rattle.std.proofs.Common.{length}
use Rattle.fix_frame.specs.Bodies.{bytes_left}
use Rattle.fix_orders.specs.Findings.{IsReading}
use Rattle.fix_orders.proofs.fields.OrderFields.read.Given as goal

abbrev pub invariant-loop-field : goal.invariant-loop-field
invariant-loop-field l = IsReading l.table l.body l.fn.body l.found

abbrev pub decreases-loop-field : goal.decreases-loop-field
decreases-loop-field l = length (bytes_left l.body)
