-- The seat is as the rings were opened, and so is its gateway; behind the doors that stood there stands the new one.
use Rattle.std.proofs.Common.{◌∙◌, arith, ap, false}
use Rattle.venue_model.specs.Requests.{Limits}
use Rattle.gateway.specs.Gateways.{AtRings, begun}
use Rattle.ring_words.specs.At.{At, number}
use Rattle.venue.specs.Members.{IsDoor}
use Rattle.venue.proofs.MemberLemmas.{with_last}
use Rattle.venue.specs.OpenedLaws.{new_seen}
use Rattle.venue.proofs.members.with_door.Goals as goal

pub new-requires : goal.new-requires
new-requires g c = new_seen _ _ _ _ _ c.requires.behind c.requires.seat c.requires.few

pub returns-in-Ok-push-clause-doors : goal.returns-in-Ok-push-clause-doors
returns-in-Ok-push-clause-doors g c = let ok = c.args.doors.ok.0 in
    with_last (IsDoor c.args.rings.now) c.push.new.self.items c.args.doors.items _ c.in-Ok-push.ensures.items
    c.requires.doors _ (omega (arith, ok)) (
      c.in-Ok.ensures.made ∙ ap {A = At Limits} {B = AtRings}
          (λ s. record { front = record (begun (number s) 0) { live = false }; seat = s }) c.requires.seat,
      c.in-Ok-new.ensures.ok,
    )
