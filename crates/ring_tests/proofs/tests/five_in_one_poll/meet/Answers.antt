-- The meeting moves neither seat, and shows the gateway what the journaller has released.
use Rattle.std.proofs.Common.{◌∙◌, ap, sym, take}
use Rattle.ring_words.specs.At.{At}
use Rattle.ring_words.specs.SeatLaws.{still_at}
use Rattle.ring_tests.proofs.tests.five_in_one_poll.meet.Goals as goal

pub returns-clause-gateway : goal.returns-clause-gateway
returns-clause-gateway g c = still_at c.args.rings.now _ _ _ c.requires.gateway c.meet_journal.ensures.steps.1

pub returns-clause-seen : goal.returns-clause-seen
returns-clause-seen g c =
    let steps = c.meet_journal.ensures.steps in
    ap (λ (s : At _). s.who.seen) steps.1
    ∙ sym (ap (λ k. take k c.args.journal.now.who.seen)
    (c.sequence.ensures.value ∙ ap (λ (s : At _). s.who.sequence) steps.2))
