-- The member went on from its start, and the port was given back the wire that was left.
use Rattle.std.proofs.Common.{◌∙◌, refl, ap, subst, None}
use Rattle.venue.specs.Accepting.{Accepting}
use Rattle.gateway.specs.Gateways.{AtRings}
use Rattle.ring_words.specs.At.{number}
use Rattle.venue.specs.Trading.{GivesBack, TradesOn}
use Rattle.venue.specs.Visiting.{at_gateway, client_in, told_leaver}
use Rattle.venue.specs.declared.visitor.Visitor.{Visitor}
use Rattle.wires.specs.Ports.{Register}
use Rattle.venue.proofs.MemberTurns.{at_door}
use Rattle.venue.proofs.TradeLemmas.{comes_back}
use Rattle.venue.proofs.member.trade.Goals as goal

pub returns : goal.returns
returns g c =
    let door = c.args.door in let worker = c.work-ended.new.worker in let tells = g.W.Wire.tells in
    let port = g.X.Port.tells worker.port.value in let after = g.X.Port.tells c.dismiss.new.port in
    let start = at_gateway tells door.0 door.1.value in let begun = c.requires.begun in
    let end = at_gateway tells worker.gateway worker.visitor.value in
    let goes = subst (λ (r : Register). TradesOn c.args.rings.now (at_door start (told_leaver tells door.1.value) r)
    worker.rings.now (at_door end (told_leaver tells worker.visitor.value) port)) c.park_at-parking.ensures
    c.work-ended.ensures.goes in record {
      back = comes_back c.args.rings.now worker.rings.now (number door.0.seat) start end
          (told_leaver tells door.1.value) (told_leaver tells worker.visitor.value)
          (client_in tells worker.visitor.value) (g.X.Port.tells c.args.port.value) port after
          (ap (λ (v : Visitor _). at_gateway tells door.0 v) begun.1
          ∙ ap {A = AtRings} {B = Accepting} (λ a. record { gateway = a; wire = None }) begun.0)
          (ap (told_leaver tells) begun.1) goes c.end.result c.end.ensures.seat worker.fits refl
          c.end.ensures.seen.spent
          (subst (λ (v : Visitor _). GivesBack port after (told_leaver tells v) (client_in tells v))
          c.into_inner.ensures
          (subst (λ x. GivesBack (g.X.Port.tells x) after (told_leaver tells c.into_inner.result)
          (client_in tells c.into_inner.result)) c.deref_mut.ensures.value c.dismiss.ensures.back))
          c.requires.opened;
    }
