-- both places are free, and then one of them
use Rattle.std.proofs.Common.{◌<◌, length, Some, sym, subst, arith, ap, ◌∙◌}
use Rattle.std.specs.Prelude.{slice_set}
use Rattle.price_levels.specs.Places.{standing, ComesLater}
use Rattle.book_tests.proofs.TwoPlaces.{one-is-free, comes-first, comes-second}
use Rattle.book_tests.proofs.tests.levels.come.Goals as goal

pub push_back-first-requires-clause-room : goal.push_back-first-requires-clause-room
push_back-first-requires-clause-room c = subst (λ l. length (standing l) < length l) (sym c.requires.free) (omega arith)

pub push_back-first-requires-clause-later : goal.push_back-first-requires-clause-later
push_back-first-requires-clause-later c =
    subst (λ l. ComesLater l c.args.earlier) (sym c.requires.free) (comes-first c.args.earlier)

pub push_back-second-requires-clause-room : goal.push_back-second-requires-clause-room
push_back-second-requires-clause-room c =
    let n = c.push_back-first.result.number in
    let within = subst (λ l. n < length l) c.requires.free c.push_back-first.ensures.within in
    let now = c.push_back-first.ensures.places ∙ ap (λ l. slice_set l n (Some c.args.earlier)) c.requires.free in
    subst (λ l. length (standing l) < length l) (sym now) (one-is-free n c.args.earlier within)

pub push_back-second-requires-clause-later : goal.push_back-second-requires-clause-later
push_back-second-requires-clause-later c =
    let n = c.push_back-first.result.number in
    let now = c.push_back-first.ensures.places ∙ ap (λ l. slice_set l n (Some c.args.earlier)) c.requires.free in
    subst (λ l. ComesLater l c.args.later) (sym now) (comes-second n c.args.earlier c.args.later c.requires.stamps)
