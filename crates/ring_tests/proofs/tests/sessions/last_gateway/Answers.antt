-- The seats are new: the last one too, and those before it.
use Rattle.std.proofs.Common.{◌∙◌, arith}
use Rattle.ring_words.specs.declared.view.Role.TheVariants.{Gateway}
use Rattle.std.proofs.lemmas.Result.{IfOk-weaker}
use Rattle.ring_words.specs.Rule.{newcomer}
use Rattle.ring_words.specs.Crew.{AreNewGateways}
use Rattle.ring_words.specs.At.{at, number}
use Rattle.small_venue.proofs.Seats.{new_last, stays}
use Rattle.ring_tests.proofs.tests.sessions.last_gateway.Goals as goal

pub gateway_at-requires : goal.gateway_at-requires
gateway_at-requires g c =
    let opened = c.requires.opened in let rings = c.args.rings.now in (
      omega arith,
      (
        opened,
        new_last rings _ _ _ c.in-Some.ensures.items c.requires.new
            ∙ (λ i. at rings (newcomer (Gateway (number c.in-Some.seat)) (opened.1 i) (opened.2 i))),
      ),
    )

pub returns-clause-left : goal.returns-clause-left
returns-clause-left g c =
    IfOk-weaker c.gateway_at.result _ (λ _. AreNewGateways c.args.rings.now c.pop.new.self.items)
    (λ made at i s there. c.requires.new i s (rw c.in-Some.ensures.items (stays c.pop.new.self.items _ i s there)))
    c.gateway_at.ensures
