-- A try to publish is one step.
use Rattle.std.proofs.Common.{ap, inr, refl, length, arith}
use Rattle.gateway.specs.declared.seat.TryPublish.TheVariants.{Done, Refused, Exhausted}
use Rattle.gateway.specs.Gateways.{at_rings}
use Rattle.gateway.specs.Standing.{Standing}
use Rattle.gateway.proofs.HearLemmas.{published}
use Rattle.gateway.proofs.gateway.Gateway.publish.Goals as goal

pub returns-in-Done-clause-publishes : goal.returns-in-Done-clause-publishes
returns-in-Done-clause-publishes g c =
    let new = at_rings (record c.self.inside { seat = c.try_publish.new.seat; session = c.published.new.self }) in
    published g.row.N _ (at_rings c.self.inside) new Done c.self.view_is c.requires.open c.requires.silent
    (omega (arith, ap (λ (s : Standing). length s.outgoing) c.published.ensures)) refl
    c.message.result.now c.message.ensures.value c.in-Done.ensures.tells c.published.ensures

pub returns-in-Refused-clause-publishes : goal.returns-in-Refused-clause-publishes
returns-in-Refused-clause-publishes g c =
    let new = at_rings (record c.self.inside { seat = c.try_publish.new.seat }) in
    published g.row.N _ (at_rings c.self.inside) new Refused c.self.view_is c.requires.open c.requires.silent
    (omega arith) refl
    c.message.result.now c.message.ensures.value c.in-Refused.ensures.tells refl

pub returns-in-Exhausted-clause-publishes : goal.returns-in-Exhausted-clause-publishes
returns-in-Exhausted-clause-publishes g c =
    let new = at_rings (record c.self.inside { seat = c.try_publish.new.seat; session = c.exhausted.new.self }) in
    published g.row.N _ (at_rings c.self.inside) new Exhausted c.self.view_is c.requires.open c.requires.silent
    c.exhausted.ensures.room refl
    c.message.result.now c.message.ensures.value c.in-Exhausted.ensures.tells c.exhausted.ensures.exhausted

pub returns-in-Refused-clause-enters : goal.returns-in-Refused-clause-enters
returns-in-Refused-clause-enters g c =
    rw (← c.self.view_is) (inr (c.message.result.now, Refused, c.in-Refused.ensures.enters))
