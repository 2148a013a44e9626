-- So far the least of the tags in front is found.
use Rattle.std.proofs.Common.{◌≡◌, take}
use Rattle.fix_orders.specs.Findings.{missing_among}
use Rattle.fix_orders.specs.Reading.{least}
use Rattle.fix_orders.proofs.fields.OrderFields.least_missing.Given as goal

abbrev pub invariant-loop-tag : goal.invariant-loop-tag
invariant-loop-tag l = l.found ≡ least (missing_among l.table l.self.values (take l.tag-index l.tag-items))
