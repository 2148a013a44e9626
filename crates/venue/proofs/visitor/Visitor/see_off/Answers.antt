-- The client that leaves is still waited for, or has left.
use Rattle.std.proofs.Common.{refl}
use Rattle.venue.proofs.visitor.Visitor.see_off.Goals as goal

pub returns-then-not-has_left : goal.returns-then-not-has_left
returns-then-not-has_left g c = rw c.in-Leaving.is (c.has_left.new.self, refl, c.if-not-has_left.ensures)

pub returns : goal.returns
returns g c = rw (c.in-Leaving.is, c.end.ensures, c.replace.ensures.value, c.replace.ensures.after)
    (c.has_left.new.self, refl, refl, c.if-not-has_left.ensures)
