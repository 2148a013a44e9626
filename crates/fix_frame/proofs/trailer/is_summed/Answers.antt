-- The last four bytes are compared.
use Rattle.std.proofs.Common.{sym}
use Rattle.std.proofs.lemmas.Slice.Eq.{slice_eq-Decides}
use Rattle.std.proofs.lemmas.Bool.Decides.{Decides-eqb}
use Rattle.fix_frame.specs.Grammar.{trailer}
use Rattle.fix_frame.proofs.trailer.is_summed.Goals as goal

pub returns : goal.returns
unfolding trailer
returns c =
    let value = rw (c.trailer_of-due.ensures, c.requires.tail) at c.ends_with.ensures.value in
    let same = slice_eq-Decides Decides-eqb _ _ _ value in
    ((λ r. sym (same.0 r)), λ summed. same.1 (sym summed))
