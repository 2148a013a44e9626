use Rattle.std.proofs.Common.{length, ap, arith}
use Rattle.fix_orders.specs.WritingLaws.{◌⨟◌}
use Rattle.gateway.proofs.HeaderLemmas.{header_put, length_header}
use Rattle.gateway.proofs.message.put_header.Goals as goal

pub returns : goal.returns
returns c =
    let puts = header_put c.args.fields.now c.put_field.new.buf c.put_field.result c.args.gateway c.args.number
    c.args.msg_type.now c.args.moment.now c.requires.kind
    (c.put_parties-end.ensures.puts ⨟ c.put_number-end.ensures.puts ⨟ c.put_field.ensures.puts) in
    let few = length_header c.args.gateway c.args.number c.args.msg_type.now c.args.moment.now (omega arith)
    (omega arith)
    (ap length c.requires.kind.2) c.requires.moment in
    record { puts = puts; most = omega (arith, puts.long, few.1) }
