use Rattle.gateway.proofs.HeaderLemmas.{parties_put}
use Rattle.gateway.proofs.message.put_parties.Goals as goal

pub returns-clause-puts : goal.returns-clause-puts
returns-clause-puts c =
    parties_put c.args.fields.now c.put_bytes.new.buf c.put_bytes.result c.args.msg_type c.args.gateway
    c.requires.gateway c.put_bytes.ensures
