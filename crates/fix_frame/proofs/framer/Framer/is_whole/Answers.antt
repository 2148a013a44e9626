-- What stands is a frame, or nothing held begins with one.
use Rattle.std.proofs.Common.{subst}
use Rattle.fix_frame.specs.Stream.{BeginsNoFrame}
use Rattle.fix_frame.specs.Framing.{Framing}
use Rattle.fix_frame.proofs.LiveLemmas.{partial}
use Rattle.fix_frame.proofs.framer.Framer.is_whole.Goals as goal

pub returns-in_default : goal.returns-in_default
returns-in_default c =
    let none = partial c.self.inside.stage c.self.inside.bytes.items c.self.invariant.0 c.in_default.not-Whole in
    subst (λ (v : Framing). BeginsNoFrame v.held) c.self.view_is none
