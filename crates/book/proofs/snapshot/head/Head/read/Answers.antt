use Rattle.std.proofs.Common.{subst, sym, length}
use Rattle.book.specs.declared.snapshot.head.Head.{Head}
use Rattle.book.specs.Spelled.{FitsHead}
use Rattle.book.proofs.SpelledBooks.{head-is}
use Rattle.book.proofs.snapshot.head.Head.read.Goals as goal

pub returns-else-fits-clause-none : goal.returns-else-fits-clause-none
returns-else-fits-clause-none c h has =
    let same = head-is c.args.bytes.now c.of-head.result h c.of-head.ensures.small c.of-head.ensures.spelled has in
    let fits = subst (λ (k : Head). FitsHead k (length c.args.bytes.now)) (sym same) has.fits in
    let yes = c.fits.ensures.1 fits in
    let no = c.if-fits.false in
    cc
