-- No byte of a time is SOH, so the field ends behind the time.
use Rattle.std.proofs.Common.{IsTrue, rules}
use Rattle.fix_orders.specs.Formats.{is_time}
use Rattle.fix_orders.proofs.TimeLemmas.{time_lacks}
use Rattle.fix_orders.proofs.header.next_time.Goals as goal

pub returns : goal.returns
returns c =
    let is : IsTrue (is_time c.in-Some.time.now) = search rules in
    (c.in-Some.ensures.field (time_lacks c.in-Some.time.now is), is)
