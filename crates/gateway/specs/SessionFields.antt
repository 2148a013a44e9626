-- What the fields of a session stand for.
use Rattle.std.specs.Prelude.{◌≡◌, ◌↔◌, ◌≤◌, false, [], None, IfSome, ⊤}
use Rattle.fix_frame.specs.Stream.{BeginsNoFrame}
use Rattle.fix_orders.specs.Formats.{time_text}
use Rattle.gateway.specs.declared.session.Session.TheInside.{Inside}
use Rattle.gateway.specs.declared.ending.Reason.{Reason}
use Rattle.gateway.specs.declared.ending.Reason.TheVariants.{Closed, WireFailed, LoggedOut, Refused, Stalled, Exhausted}
use Rattle.gateway.specs.Standing.{Standing}

abbrev pub standing : Inside → Standing
standing s = record {
  gateway = s.gateway;
  under_way = s.framer.held;
  held = s.held;
  accepted = s.accepted;
  time = time_text s.time;
  outgoing = s.outgoing;
  number = s.number;
  logged_on = s.logged_on;
  closing = s.closing;
}

-- a session closes by itself for these reasons
abbrev pub ClosesItself : Reason → Type 0
ClosesItself LoggedOut = ⊤
ClosesItself Refused = ⊤
ClosesItself Exhausted = ⊤
ClosesItself Closed = ⊥
ClosesItself WireFailed = ⊥
ClosesItself Stalled = ⊥

-- A gateway is one of eight; fewer messages were accepted than MsgSeqNum counts. While the
-- session isn't closing its framer has found no fault, no whole frame waits in it, and it is known whether it holds bytes.
pub record KeepsSession (s : Inside) : Type 0 where
  pub from : 1 ≤ s.gateway
  pub to_eight : s.gateway ≤ 8
  pub few : s.accepted ≤ 999999999
  pub own : IfSome s.closing ClosesItself
  pub unbroken : s.closing ≡ None → s.framer.fault ≡ None
  pub partial : s.closing ≡ None → BeginsNoFrame s.framer.held
  pub midway : s.closing ≡ None → (s.midway ≡ false ↔ s.framer.held ≡ [])
