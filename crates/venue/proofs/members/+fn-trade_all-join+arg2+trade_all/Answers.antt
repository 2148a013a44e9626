-- Behind those that came back comes this one.
use Rattle.std.proofs.Common.{◌≡◌, ◌∙◌, ◌∷◌, [], length, ap, subst, arith, length-append}
use mathlib.Core.Option.{some}
use lib.ListN.{get_elem?}
use Rattle.std.specs.Vec.{vec_capacity}
use Rattle.gateway.specs.Gateways.{AtRings}
use Rattle.ring_words.specs.At.{number}
use Rattle.venue.specs.Headline.{in_box}
use Rattle.venue.specs.declared.members.Home.{Home}
use Rattle.venue.specs.Trading.{IsBack}
use Rattle.venue.proofs.MemberLemmas.{with_three}
use Rattle.venue.proofs.members.+fn-trade_all-join+arg2+trade_all.Goals as goal

pub returns : goal.returns
returns g t c =
    let members = c.args.members in let others = c.in-Ok.split.others in let home = c.join-home.result.0 in
    let seat = c.join-home.result.1.0 in let port = c.join-home.result.1.1 in let result = c.with_member.result in
    let whole = c.in-Ok.ensures.whole in let ready = c.in-Ok.ensures.others in let made = c.with_member.ensures in
    let tells = in_box g.X.Port.tells in let first = c.join-home.ensures.first in let seats = first.seats in
    let seats_ok = home.seats.ok.0 in let ports_ok = home.ports.ok.0 in let old_ok = others.ports.ok.0 in
    let all_seats_ok = result.seats.ok.0 in let all_ports_ok = result.ports.ok.0 in let paired = ready.ports in
    let place = ap (λ (a : AtRings). number a.seat) c.in-Ok.ensures.door.0 in let one_more = whole.doors in
    let ports = first.ports in let more_seats = ap length made.seats ∙ length-append home.seats.items (seat ∷ []) in
    let more_ports = ap length made.ports ∙ length-append home.ports.items (port ∷ []) in
    record {
      back = λ i s x y in_seats in_old in_new.
          with_three (λ n r p q. IsBack c.args.rings.now n r (tells p) (tells q)) home.seats.items others.ports.items
          home.ports.items seat c.in-Ok.split.port port (omega (arith, seats_ok, old_ok, seats, paired))
          (omega (arith, ports_ok, old_ok, ports, paired)) first.back (number c.in-Ok.split.door.0.seat)
          (omega (arith, place, one_more, paired, old_ok)) c.join-home.ensures.second i s x y
          (subst (λ l. get_elem? l i ≡ some s) made.seats in_seats)
          (subst (λ l. get_elem? l i ≡ some x) whole.ports in_old)
          (subst (λ l. get_elem? l i ≡ some y) made.ports in_new);
      seats = omega (arith, all_seats_ok, seats_ok, seats, one_more, more_seats);
      ports = omega (arith, all_ports_ok, ports_ok, ports, one_more, more_ports);
      room = (
        made.room.0 ∙ first.room.0 ∙ ap (λ (h : Home _). vec_capacity h.seats) whole.home,
        made.room.1 ∙ first.room.1 ∙ ap (λ (h : Home _). vec_capacity h.ports) whole.home,
      );
    }
