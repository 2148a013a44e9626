-- One seat more stands behind those before it.
use Rattle.std.proofs.Common.{sym, subst, arith}
use Rattle.small_venue.specs.Seats.{IsSpent, ComeBackSpent}
use Rattle.small_venue.proofs.Seats.{one_more}
use Rattle.small_venue.proofs.member.put_back.Goals as goal

pub returns-clause-all : goal.returns-clause-all
returns-clause-all g c =
    let rings = c.args.rings.now in
    let before = c.args.seats.now in
    let last = subst (λ k. IsSpent rings k c.args.seat) (omega (arith, before.ok.0)) c.requires.seat in
    subst (λ seats. ComeBackSpent rings seats) (sym c.in_ok-push.ensures.items)
    (one_more (λ k s. IsSpent rings k s) before.items c.args.seat c.requires.others last)
