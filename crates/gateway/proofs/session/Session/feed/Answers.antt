-- What was fed ends no frame, or one, or goes wrong.
use Rattle.std.proofs.Common.{◌≡◌, refl, sym, ◌∙◌}
use Rattle.fix_frame.specs.Borrowed.{frame_fields}
use Rattle.fix_frame.specs.Framing.{fresh}
use Rattle.gateway.specs.SessionFields.{standing}
use Rattle.gateway.specs.declared.refusal.Refusal.TheVariants.{Frame}
use Rattle.gateway.proofs.FeedLemmas.{listens-frame, listens-fault, refused_is, fault_now, is_held}
use Rattle.gateway.proofs.FrameBytes.{has_some_text, has_short_text}
use Rattle.gateway.proofs.SessionLemmas.{keeps_fresh}
use Rattle.gateway.proofs.session.Session.feed.Goals as goal

pub returns-in-Err-clause-hears : goal.returns-in-Err-clause-hears
returns-in-Err-clause-hears c =
    let is_open = rw (← c.self.view_is) at c.requires.open in let cause = c.in-Err.ensures.refused.cause in
    let faults = fault_now c.self.inside.framer _ c.in-Err.fault (c.self.invariant.unbroken is_open) cause in
    rw (← c.self.view_is) (listens-fault _ _ _ c.feed.new.self.held faults.0 c.in-Err.fault c.requires.some faults.1
    (refused_is (standing c.self.inside) _ _ _ _ (Frame c.in-Err.fault) c.text.ensures.value c.say_logout.ensures.new))

pub invariant_of-self-in-Some : goal.invariant_of-self-in-Some
invariant_of-self-in-Some c =
    -- the frame is given, so nothing is under way
    let given : c.next.follows.lender-at-none ≡ fresh = rw c.in-Some.is at c.next.follows.holds-at-none in
    keeps_fresh _ c.self.invariant.from c.self.invariant.to_eight c.self.invariant.few c.self.invariant.own given refl

pub returns-clause-hears : goal.returns-clause-hears
returns-clause-hears c =
    let is_open = rw (← c.self.view_is) at c.requires.open in let text = c.text-in-Some.result.now in
    let verdict = c.hear-heard.result.verdict in
    rw (← c.self.view_is) (listens-frame _ _ _ _ (frame_fields c.in-Some.frame) c.next.follows.lender-at-none.held _
    text verdict _ (c.self.invariant.partial is_open) c.in-Ok.ensures.taken.within c.in-Some.ensures.found.body
    (sym c.in-Ok.ensures.taken.held ∙ c.in-Some.ensures.found.spells)
    c.hear-heard.ensures.time c.hear-heard.ensures.verdict c.text-in-Some.ensures.value c.hold_as.ensures
    (c.answer.ensures.new text (is_held text verdict c.self.inside.held _ c.hold_as.ensures)))

pub hold_as-requires-clause-some : goal.hold_as-requires-clause-some
hold_as-requires-clause-some c = has_some_text (frame_fields c.in-Some.frame) _ c.text-in-Some.ensures.value

pub hold_as-requires-clause-most : goal.hold_as-requires-clause-most
hold_as-requires-clause-most c =
    has_short_text (frame_fields c.in-Some.frame) _ c.text-in-Some.ensures.body c.text-in-Some.ensures.value
