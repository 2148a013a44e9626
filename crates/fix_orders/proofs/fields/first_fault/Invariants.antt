-- The reasons that are left decide.
use Rattle.std.proofs.Common.{◌≡◌, drop, List}
use Rattle.fix_frame.specs.Grammar.{Field}
use Rattle.fix_orders.specs.Findings.{IsFound, fault_in}
use Rattle.fix_orders.specs.Reading.{classes}
use Rattle.fix_orders.proofs.fields.first_fault.Given as goal

abbrev pub invariant-loop-reason : goal.invariant-loop-reason
invariant-loop-reason l =
    (fields : List Field) → IsFound l.table fields l.found
    → fault_in (drop l.reason-index l.reason-items) l.table fields ≡ fault_in classes l.table fields
