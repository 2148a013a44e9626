use Rattle.std.proofs.Common.{rules, ap, ◌∙◌}
use Rattle.fix_orders.specs.Text.{msg_type_code, text}
use Rattle.replay.proofs.LineLemmas.{said_put}
use Rattle.replay.proofs.lines.put_output.Goals as goal

pub returns-clause-fields : goal.returns-clause-fields
returns-clause-fields c = said_put _ _ _ _ _ _ _ _ _ _ (text c.args.output.now c.args.place)
    (c.msg_type_code.ensures.value ∙ ap msg_type_code c.msg_type.ensures) c.time_text.ensures (search rules)
    c.put_field-end.ensures.puts c.put_field-end-2.ensures.puts c.put_bytes.ensures
