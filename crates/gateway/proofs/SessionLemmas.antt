-- The session's fields at its beginning, and with no byte of a frame.
use Rattle.std.proofs.Common.{◌≡◌, ◌≤◌, ℕ, List, [], Option, None, false, refl, ap}
use Rattle.std.specs.Prelude.{IfSome}
use Rattle.fix_frame.specs.Framing as framing
use Rattle.fix_orders.specs.Formats.{time_text}
use Rattle.gateway.specs.Answers.{no_time}
use Rattle.gateway.specs.SessionCalls.{fresh}
use Rattle.gateway.specs.SessionFields.{ClosesItself, KeepsSession}
use Rattle.gateway.specs.declared.session.Session.TheInside.{Inside}
use Rattle.gateway.proofs.Opening.{no_frame_in_nothing}

-- the time of number 0 is the one before any message
pub time_text-zero : time_text 0 ≡ no_time
unfolding time_text
time_text-zero = refl

-- nothing heard and nothing said is a fresh session
pub is_fresh : (gateway : ℕ) (under_way time outgoing : List ℕ) (held : Option (List ℕ)) → under_way ≡ [] → held ≡ None
    → time ≡ no_time →
    outgoing ≡ [] → record {
      gateway = gateway;
      under_way = under_way;
      held = held;
      accepted = 0;
      time = time;
      outgoing = outgoing;
      number = 1;
      logged_on = false;
      closing = None;
    } ≡ fresh gateway
is_fresh gateway under_way time outgoing held none free before nothing = cc

-- a session is kept whose framer holds nothing
pub keeps_fresh : (s : Inside) → 1 ≤ s.gateway → s.gateway ≤ 8 → s.accepted ≤ 999999999 → IfSome s.closing ClosesItself
    → s.framer ≡ framing.fresh → s.midway ≡ false → KeepsSession s
keeps_fresh s from to few own begun at_rest = record {
  from = from;
  to_eight = to;
  few = few;
  own = own;
  unbroken = λ h. ap (λ (f : framing.Framing). f.fault) begun;
  partial = λ h. rw begun no_frame_in_nothing;
  midway = λ h. (λ _. ap (λ (f : framing.Framing). f.held) begun, λ _. at_rest);
}
