-- With no frame nothing is held that is one.
use Rattle.std.proofs.Common.{refl, subst}
use Rattle.fix_frame.specs.Stream.{BeginsNoFrame}
use Rattle.fix_frame.specs.Framing.{Framing}
use Rattle.fix_frame.proofs.LiveLemmas.{partial, none_whole}
use Rattle.fix_frame.proofs.framer.Framer.next.Goals as goal

pub returns-in_default : goal.returns-in_default
returns-in_default c =
    let none = partial c.self.inside.stage c.self.inside.bytes.items c.self.invariant.0 c.in_default.not-Whole in
    let held = subst (λ (v : Framing). BeginsNoFrame v.held) c.self.view_is none in
    ((refl, (λ _. tt), c.self.view_is), record { after = tt; found = none_whole c.args.self.now.held held })
