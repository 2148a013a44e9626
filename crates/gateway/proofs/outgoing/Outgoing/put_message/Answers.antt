-- The frame of the header's fields and the body stands behind what stood there.
use Rattle.std.proofs.Common.{◌++◌, take, ap, ◌∙◌, arith}
use Rattle.fix_orders.specs.Formats.{time_text}
use Rattle.gateway.specs.Standing.{message_text}
use Rattle.gateway.proofs.HeaderLemmas.{spelled, message_is, message_length}
use Rattle.gateway.proofs.OutgoingLemmas.{put_behind, few_behind}
use Rattle.gateway.proofs.outgoing.Outgoing.put_message.Goals as goal

pub write_frame-len-requires-clause-body : goal.write_frame-len-requires-clause-body
write_frame-len-requires-clause-body c =
    spelled c.args.gateway c.args.number c.args.time c.args.msg_type.now c.args.body.now _ (omega arith) (omega arith)
    c.requires.kind c.requires.fields c.requires.most
    (rw (c.set.new.self.same ∙ ap time_text c.set.ensures) at c.put_fields-end.ensures.puts)

pub returns-clause-text : goal.returns-clause-text
returns-clause-text c = λ said spells.
    put_behind c.self.inside.len _ c.write_frame-len.result c.self.inside.bytes c.write_frame-len.new.out (omega arith)
    c.write_frame-len.ensures.within
    ∙ ap (λ l. take c.self.inside.len c.self.inside.bytes ++ l)
    (c.write_frame-len.ensures.written
    ∙ message_is c.args.gateway c.args.number c.args.time c.args.msg_type.now c.args.body.now _ said spells
    (rw (c.set.new.self.same ∙ ap time_text c.set.ensures) at c.put_fields-end.ensures.puts))
    ∙ ap (λ l. l ++ message_text c.args.gateway c.args.number said) c.self.view_is

pub returns-clause-few : goal.returns-clause-few
returns-clause-few c =
    few_behind c.self.inside.len _ c.write_frame-len.result c.self.inside.bytes c.write_frame-len.new.out (omega arith)
    c.write_frame-len.ensures.within
    c.args.self.now c.self.view_is
    (message_length c.put_fields-end.new.fields c.write_frame-len.new.out c.put_fields-end.result
    c.write_frame-len.result
    c.put_fields-end.ensures.few (omega arith) c.write_frame-len.ensures.within c.write_frame-len.ensures.written)
