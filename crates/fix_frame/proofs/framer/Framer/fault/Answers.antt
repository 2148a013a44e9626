-- With no fault, what is held was judged.
use Rattle.std.proofs.Common.{ap, ◌∙◌, subst}
use Rattle.fix_frame.specs.Framing.{Framing}
use Rattle.fix_frame.specs.Endings.{IsJudged}
use Rattle.fix_frame.proofs.LiveLemmas.{held_judged}
use Rattle.fix_frame.proofs.framer.Framer.fault.Goals as goal

pub returns-in-Head-clause-judged : goal.returns-in-Head-clause-judged
returns-in-Head-clause-judged c = λ right.
    let judged = held_judged c.self.inside.stage c.self.inside.bytes.items c.self.invariant.0
    (ap (λ (v : Framing). v.fault) c.self.view_is ∙ right) in
    subst (λ (v : Framing). IsJudged v.held) c.self.view_is judged
