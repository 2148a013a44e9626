-- Round by round: the last one ends the session, or the journal fails in it.
use Rattle.std.proofs.Common.{◌∙◌, inl, arith, refl, rules, sym, true≢false}
use Rattle.disks.specs.MomentLaws.{started}
use Rattle.venue.proofs.ServingLemmas.{turns_over, session_over, journal_failed, round_more}
use Rattle.venue.proofs.serving.take_turns.Goals as goal

pub loop-round-init : goal.loop-round-init
loop-round-init g c = record {
  live = c.requires.live;
  at = c.requires.may.seat;
  role = refl;
  crew = c.requires.may.crew;
  ready = c.requires.may.ready;
  behind = c.requires.may.behind;
  honest = (λ h. h, λ h. h);
  counts = refl;
  leaves = λ h. started _ _ (λ file left. inl (g.met.D.JournalDisk.only_now _ file h left));
  rounds = refl;
  delivers = λ start course so_far. (course, so_far);
}

pub loop-round-preserved : goal.loop-round-preserved
loop-round-preserved g c = let turn = c.turn-turned.ensures in let polled = c.poll-polled.ensures in
    rw c.rest.ensures (round_more c.loop-round.invariant turn.turn turn.uses c.in_default.not-Ended polled.stays
    polled.polls polled.failed polled.any_moment polled.keeps
    (λ is. true≢false (sym (rw is at c.eq.ensures) ∙ c.if-eq.false)) c.is_quiet.result c.is_quiet.ensures)

pub returns-in-Ended : goal.returns-in-Ended
returns-in-Ended g c = let turn = c.turn-turned.ensures in
    session_over c.loop-round.invariant turn.turn turn.uses c.in-Ended.field-0 c.in-Ended.is

pub returns-then-eq : goal.returns-then-eq
returns-then-eq g c = let turn = c.turn-turned.ensures in let polled = c.poll-polled.ensures in
    journal_failed c.loop-round.invariant turn.turn turn.uses c.in_default.not-Ended polled.stays polled.polls
    polled.failed polled.any_moment polled.keeps (search rules)

pub returns : goal.returns
returns g c =
    turns_over c.loop-round.invariant (omega (arith, c.loop-round-test.false, c.loop-round.auto._round-end))
