-- A closed body ends in SOH.
use Rattle.std.proofs.Common.{subst, sym, refl}
use Rattle.fix_frame.specs.Cuts.{EndsInSoh}
use Rattle.fix_frame.proofs.CutLemmas.{ends_push}
use Rattle.fix_frame.proofs.trailer.judge.Goals as goal

pub is_typed-requires : goal.is_typed-requires
is_typed-requires c =
    let closed = c.if-not-is_closed.ensures.0 refl in subst EndsInSoh (sym closed.0.1) (ends_push closed.0.0)
