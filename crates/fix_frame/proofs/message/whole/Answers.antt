-- A body that is a run of fields makes the bytes a frame, and each frame has such a body.
use Rattle.std.proofs.Common.{refl, sym, subst, arith}
use Rattle.fix_frame.specs.Grammar.{BeginsWithType}
use Rattle.fix_frame.proofs.FieldsOf.{printed_run}
use Rattle.fix_frame.proofs.message.whole.Goals as goal

pub is_typed-requires : goal.is_typed-requires
is_typed-requires c = c.in_ok-body.body.ends (omega (arith, c.in_ok-body.ensures.least))

pub of-requires : goal.of-requires
of-requires c =
    let (fs, each, typed, spells) = c.if-not-is_typed.ensures.0 refl in
    let (run, same) = printed_run _ fs each spells in
    record { frame = c.in_ok-body.ensures.frame run (subst BeginsWithType (sym same) typed); spells = run.spells }

pub returns : goal.returns
returns c =
    let (fs, each, typed, spells) = c.if-not-is_typed.ensures.0 refl in
    let (run, same) = printed_run _ fs each spells in
    rw c.of.ensures (c.in_ok-body.ensures.frame run (subst BeginsWithType (sym same) typed))
