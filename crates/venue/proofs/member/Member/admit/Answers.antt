-- A client came in, or none did.
use Rattle.std.proofs.Common.{refl, ap, Some}
use Rattle.venue.specs.Accepting.{Accepting}
use Rattle.gateway.specs.Gateways.{AtRings}
use Rattle.venue.specs.TradingLaws.{no_turn}
use Rattle.venue.proofs.MemberTurns.{has_come, nobody_is}
use Rattle.venue.proofs.member.Member.admit.Goals as goal

pub returns-then-not-is_nobody-clause-goes : goal.returns-then-not-is_nobody-clause-goes
returns-then-not-is_nobody-clause-goes g c = no_turn _ _

pub returns-in_default-clause-goes : goal.returns-in_default-clause-goes
returns-in_default-clause-goes g c = rw (c.in_default.ensures.tells, c.deref_mut.ensures.value) (no_turn _ _)

pub returns-clause-goes : goal.returns-clause-goes
returns-clause-goes g c = let told = g.W.Wire.tells c.in-Some.wire in
    rw (nobody_is c.args.self.now.visitor.value (rw c.deref.ensures at c.if-not-is_nobody.ensures))
    (has_come _ _ _ told _ _ (
      refl,
      ap {A = AtRings} {B = Accepting} (λ a. record { gateway = a; wire = Some told })
          c.begin.ensures.new,
    ) (rw c.deref_mut.ensures.value at c.in-Some.ensures.tells))
