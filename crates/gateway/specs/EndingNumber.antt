-- The numbers of the reasons for which a session ends (docs/PROFILE.md, "Numbers of refusals").
use Rattle.std.specs.Prelude.{ℕ}
use Rattle.gateway.specs.declared.ending.Reason.{Reason}
use Rattle.gateway.specs.declared.ending.Reason.TheVariants.{Closed, WireFailed, LoggedOut, Refused, Stalled, Exhausted}

-- which number a reason has
abbrev pub ending_number : Reason → ℕ
ending_number Closed = 51
ending_number WireFailed = 52
ending_number LoggedOut = 53
ending_number Refused = 54
ending_number Stalled = 55
ending_number Exhausted = 56
