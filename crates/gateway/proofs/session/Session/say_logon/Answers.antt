-- The Logon's body is its three fields.
use Rattle.std.proofs.Common.{refl}
use Rattle.fix_orders.specs.Formats.{time_text}
use Rattle.gateway.specs.Answers.{Logon}
use Rattle.gateway.specs.Standing.{said_by, logon_fields}
use Rattle.gateway.proofs.MessageLemmas.{logon_is, logon_each}
use Rattle.gateway.proofs.session.Session.say_logon.Goals as goal

pub say-requires-clause-fields : goal.say-requires-clause-fields
say-requires-clause-fields c = (logon_fields, logon_each, logon_is)

pub returns-clause-new : goal.returns-clause-new
returns-clause-new c = c.say.ensures.new (said_by (Logon (time_text c.args.time)))
    (record { kind = refl; time_is = refl; body_is = logon_is; fields = logon_each })
