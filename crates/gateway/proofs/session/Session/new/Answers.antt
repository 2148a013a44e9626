-- A session begins with nothing heard and nothing said.
use Rattle.std.proofs.Common.{refl, ap, rules}
use Rattle.fix_frame.specs.Framing.{Framing}
use Rattle.gateway.proofs.SessionLemmas.{time_text-zero, is_fresh, keeps_fresh}
use Rattle.gateway.proofs.session.Session.new.Goals as goal

pub invariant_of-result : goal.invariant_of-result
invariant_of-result c =
    keeps_fresh _ c.requires.from c.requires.to (search rules) (search rules) c.in_ok-new.ensures refl

pub returns : goal.returns
returns c = is_fresh c.args.gateway _ _ _ _ (ap (λ (f : Framing). f.held) c.in_ok-new.ensures) c.new-2.ensures
    time_text-zero c.new-3.ensures
