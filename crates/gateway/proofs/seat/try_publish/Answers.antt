use Rattle.std.proofs.Common.{rules}
use Rattle.gateway.specs.declared.seat.TryPublish.TheVariants.{Refused}
use Rattle.gateway.specs.Seats.{Enters}
use Rattle.gateway.proofs.PublishLemmas.{tells_done, tells_refused}
use Rattle.gateway.proofs.seat.try_publish.Goals as goal

pub returns-in-Ok-clause-tells : goal.returns-in-Ok-clause-tells
returns-in-Ok-clause-tells g c = tells_done g.row.N c.args.seat.now c.publish.new.seat c.args.message.now (search rules)

pub returns-in-Err-Full : goal.returns-in-Err-Full
returns-in-Err-Full g c =
    let enters : Enters g.row.N c.args.seat.now c.try_claim.new.seat c.args.message.now Refused = search rules in
    record { stays = search rules; seen = search rules; enters = enters; tells = tells_refused g.row.N c.args.seat.now c.try_claim.new.seat c.args.message.now enters }
