use Rattle.std.proofs.Common.{arith}
use Rattle.gateway.proofs.NameLemmas.{named_client}
use Rattle.gateway.proofs.hearing.is_client.Goals as goal

pub returns-then-letter-eq67 : goal.returns-then-letter-eq67
returns-then-letter-eq67 c =
    named_client c.args.name.now c.args.gateway (omega arith) c.if-letter-eq67.true c.if-gateway-lt10.true
