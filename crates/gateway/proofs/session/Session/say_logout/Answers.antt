-- The Logout's body is its text.
use Rattle.std.proofs.Common.{◌∷◌, [], ap, refl, sym, ◌∙◌}
use Rattle.fix_frame.specs.Grammar.{print_fields}
use Rattle.fix_orders.specs.Formats.{time_text}
use Rattle.fix_orders.specs.Text.{field}
use Rattle.gateway.specs.Answers.{Logout}
use Rattle.gateway.specs.Standing.{said_by}
use Rattle.gateway.proofs.MessageLemmas.{text_field, text_fields_is}
use Rattle.gateway.proofs.session.Session.say_logout.Goals as goal

pub say-requires-clause-fields : goal.say-requires-clause-fields
say-requires-clause-fields c = (
  field 58 c.args.text.now ∷ [],
  (text_field c.args.text.now c.requires.text, tt),
  sym c.put_field-end.ensures.puts.written,
)

pub returns-clause-new : goal.returns-clause-new
returns-clause-new c =
    let fields = text_fields_is c.args.text.now c.requires.text in
    c.say.ensures.new (said_by (Logout (time_text c.args.time) c.args.text.now)) (record {
      kind = refl;
      time_is = refl;
      body_is = ap print_fields fields ∙ sym c.put_field-end.ensures.puts.written;
      fields = rw fields (text_field c.args.text.now c.requires.text, tt);
    })
