use Rattle.gateway.proofs.HeaderLemmas.{behind_header}
use Rattle.gateway.proofs.message.put_fields.Goals as goal

pub returns-clause-puts : goal.returns-clause-puts
returns-clause-puts c = behind_header _ c.args.body.now _ _ _ _ _ c.put_header-begun.ensures.puts c.put_bytes.ensures
