-- The Logout has no body.
use Rattle.std.proofs.Common.{[], refl}
use Rattle.fix_orders.specs.Formats.{time_text}
use Rattle.gateway.specs.Answers.{Logout}
use Rattle.gateway.specs.Standing.{said_by}
use Rattle.gateway.proofs.session.Session.return_logout.Goals as goal

pub say-requires-clause-fields : goal.say-requires-clause-fields
say-requires-clause-fields c = ([], tt, refl)

pub returns-clause-new : goal.returns-clause-new
returns-clause-new c =
    c.say.ensures.new (said_by (Logout (time_text c.args.time) []))
    (record { kind = refl; time_is = refl; body_is = refl; fields = tt })
