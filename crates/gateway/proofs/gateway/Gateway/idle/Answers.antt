-- An output of another's client is passed over, or there is none.
use Rattle.gateway.specs.Gateways.{front}
use Rattle.gateway.specs.Seats.{ledger_of}
use Rattle.gateway.proofs.HandLemmas.{passes-other, passes-none}
use Rattle.gateway.proofs.gateway.Gateway.idle.Goals as goal

pub returns-in-Passed-clause-idles : goal.returns-in-Passed-clause-idles
returns-in-Passed-clause-idles g c =
    let ledger = ledger_of g.row.N in
    rw (← c.self.view_is) (passes-other (front c.self.inside) (ledger c.self.inside.seat)
    (ledger c.take-next.new.seat) c.in-Passed.ensures.tells.1 c.in-Passed.ensures.tells.2)

pub returns-in-Nothing-clause-idles : goal.returns-in-Nothing-clause-idles
returns-in-Nothing-clause-idles g c =
    let ledger = ledger_of g.row.N in
    rw (← c.self.view_is) (passes-none (front c.self.inside) (ledger c.self.inside.seat)
    (ledger c.take-next.new.seat) c.in-Nothing.ensures.tells)
