-- A turn is its parts, one behind the other.
use Rattle.std.proofs.Common.{ap, refl, inl, sym, ◌∙◌, true≢false, rules}
use Rattle.gateway.specs.Gateways.{AtRings, at_rings}
use Rattle.gateway.proofs.DeliversLemmas.{turn-used, turn-unused}
use Rattle.gateway.proofs.SeatLemmas.{seat_still}
use Rattle.gateway.proofs.FlushedTurns.{turn-failed, turn-stuck, turn-closed}
use Rattle.gateway.proofs.HeardTurns.{turn-unheard, turn-rested}
use Rattle.gateway.proofs.gateway.Gateway.turn.Goals as goal

pub returns-in-Failed : goal.returns-in-Failed
returns-in-Failed g c = turn-unused c.self.view_is (ap (λ (a : AtRings). a.seat) c.over.ensures.gone)
    (rw (c.over.ensures.gone, c.over.ensures.says)
    (turn-failed _ _ _ _ _ c.flush-flushed.ensures.others c.in-Failed.ensures.bytes))

pub returns-in-Full : goal.returns-in-Full
returns-in-Full g c = let old = at_rings c.self.inside in
    turn-unused c.self.view_is c.stuck.ensures.seat (turn-stuck old.front _ _ _ _ _ _ c.stuck.result
    c.flush-flushed.ensures.others (rw (← c.self.view_is) at c.requires.live)
    c.in-Full.ensures.bytes (search rules) old.front.idle c.stuck.ensures.stuck refl)

pub returns-in-Some : goal.returns-in-Some
returns-in-Some g c = turn-unused c.self.view_is (ap (λ (a : AtRings). a.seat) c.over-in-Some.ensures.gone)
    (rw (c.over-in-Some.ensures.gone, c.over-in-Some.ensures.says) (turn-closed _ _ _ _ _ c.in-Some.reason
    c.flush-flushed.ensures.others c.in-All.ensures.bytes c.in-Some.ensures.own (sym c.in-Some.ensures.value)))

pub returns-then-eq : goal.returns-then-eq
returns-then-eq g c = let heard = c.hear-heard in let bytes = c.in-All.ensures.bytes in
    let over = c.over-then-eq.ensures in
    turn-used c.self.view_is heard.ensures.stays heard.ensures.enters (seat_still heard.new.self.seat) (inl refl)
    (ap (λ (a : AtRings). a.seat) over.gone) (rw (over.gone, over.says)
    (turn-unheard _ _ _ _ _ _ _ _ bytes.0 heard.result bytes.1 c.flush-flushed.ensures.others bytes.2.0 bytes.2.1
    heard.ensures.hears (search rules)))

pub returns : goal.returns
returns g c = let heard = c.hear-heard in let bytes = c.in-All.ensures.bytes in let handed = c.hand_on-took.ensures in
    turn-used c.self.view_is heard.ensures.stays heard.ensures.enters handed.stays handed.looks c.rest.ensures.seat
    (turn-rested _ _ _ _ _ _ _ _ bytes.0 heard.result bytes.1 c.flush-flushed.ensures.others bytes.2.0 bytes.2.1
    heard.ensures.hears _ _ c.hand_on-took.result handed.hands_on _ _ c.rest.result (search rules)
    (λ is_failed. true≢false (sym (rw is_failed at c.eq.ensures) ∙ c.if-eq.false))
    (rw (← c.self.view_is) at c.requires.live) (search rules) c.rest.ensures.rests)
