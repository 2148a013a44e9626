-- The Heartbeat's body is its TestReqID.
use Rattle.std.proofs.Common.{◌∷◌, [], refl, sym}
use Rattle.fix_orders.specs.Formats.{time_text}
use Rattle.fix_orders.specs.Text.{field}
use Rattle.gateway.specs.Answers.{Heartbeat}
use Rattle.gateway.specs.Standing.{said_by}
use Rattle.gateway.proofs.session.Session.say_heartbeat.Goals as goal

pub say-requires-clause-fields : goal.say-requires-clause-fields
say-requires-clause-fields c = (
  field 112 c.args.echo.now ∷ [],
  (c.requires.echo, tt),
  sym c.put_field-end.ensures.puts.written,
)

pub returns-clause-new : goal.returns-clause-new
returns-clause-new c =
    c.say.ensures.new (said_by (Heartbeat (time_text c.args.time) c.args.echo.now)) (record {
      kind = refl;
      time_is = refl;
      body_is = sym c.put_field-end.ensures.puts.written;
      fields = (c.requires.echo, tt);
    })
