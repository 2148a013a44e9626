-- 1,024 is a power of two.
use Rattle.std.proofs.Common.{◌≡◌, true, false, Err, ap, sym, ◌∙◌}
use Rattle.venue.proofs.OpenedLemmas.{right_size}
use Rattle.venue.proofs.rings.open.Goals as goal

pub unreachable-requires : goal.unreachable-requires
unreachable-requires g c =
    let wrong = c.open_behind.ensures.bad (c.in-Err-NotPowerOfTwo.is ∙ ap Err c.in-Err-NotPowerOfTwo.field-0-is) in
    let no : true ≡ false = sym right_size ∙ wrong in cc

pub returns-in-Ok-clause-rings : goal.returns-in-Ok-clause-rings
returns-in-Ok-clause-rings g c =
    let opened = c.in-Ok.ensures.opened in
    record { logic = opened.0 ∙ c.of.ensures; base_is = opened.1; base_outputs = opened.2 ∙ c.requires.outputs }
