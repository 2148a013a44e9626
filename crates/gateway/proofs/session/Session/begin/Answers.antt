-- A session begins anew with nothing heard and nothing said.
use Rattle.std.proofs.Common.{refl, ap, rules, ◌∙◌}
use Rattle.fix_frame.specs.Framing.{Framing}
use Rattle.gateway.specs.SessionCalls.{fresh}
use Rattle.gateway.specs.Standing.{Standing}
use Rattle.gateway.proofs.SessionLemmas.{time_text-zero, is_fresh, keeps_fresh}
use Rattle.gateway.proofs.session.Session.begin.Goals as goal

pub invariant_of-self : goal.invariant_of-self
invariant_of-self c =
    keeps_fresh _ c.self.invariant.from c.self.invariant.to_eight (search rules) (search rules) c.reset.ensures refl

pub returns : goal.returns
returns c =
    is_fresh c.self.inside.gateway _ _ _ _ (ap (λ (f : Framing). f.held) c.reset.ensures) c.release.ensures
    time_text-zero c.clear.ensures
    ∙ ap (λ (s : Standing). fresh s.gateway) c.self.view_is
